-- The block is its first 22 bytes, the byte and the 32 bytes.
use Rattle.std.proofs.Common.{◌++◌, List, ℕ, ap, ◌∙◌, length, take}
use Rattle.sha2.specs.Sha256.{sha256}
use Rattle.lms_ots.specs.Words.{u8str}
use Rattle.lms_ots.proofs.BlockLaws.{block_written, length-block_written}
use Rattle.lms_ots.proofs.chains.relink.Goals as goal

pub returns-clause-value : goal.returns-clause-value
returns-clause-value c =
    let after = c.copy_from_slice.ensures.after in
    let whole = block_written 22 32 c.args.block.now c.copy_from_slice.new.self c.args.j c.told-block in
    c.digest.ensures ∙ ap sha256 (whole ∙ ap (λ (xs : List ℕ). take 22 c.args.block.now ++ u8str c.args.j ++ xs) after)

pub returns-clause-len : goal.returns-clause-len
returns-clause-len c =
    length-block_written 22 32 c.args.block.now c.copy_from_slice.new.self c.args.j c.told-block (ap length c.copy_from_slice.ensures.after ∙ c.told-x)
