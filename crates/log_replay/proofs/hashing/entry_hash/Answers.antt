use Rattle.std.proofs.Common.{◌∙◌, ap, sym, arith, List, ℕ, ◌<◌, ◌≤◌, ◌^◌, ◌++◌, length}
use Rattle.merkle_tree.specs.Mth.{leaf_hash}
use Rattle.log_replay.specs.Spelling.{entry_front}
use Rattle.log_replay.proofs.EntryText.{entry_is_text}
use Rattle.log_replay.proofs.hashing.entry_hash.Goals as goal

pub returns : goal.returns
returns c =
    let k = c.strict_item_by_kind.ensures in
    let logged = c.args.logged.now in
    let few : c.args.at < 2 ^ 64 = omega arith in
    let small : c.args.rule ≤ 65535 = omega arith in
    c.leaf_hash_of_pieces.ensures
    ∙ ap (λ (x : List ℕ). leaf_hash (x ++ logged)) (c.put_front-len.ensures.front.bytes ∙ (λ i. entry_front c.args.at (c.from.ensures i) (length logged)))
    ∙ ap leaf_hash (sym (entry_is_text k.uint_text k.bytes_text c.args.at c.args.rule logged few small c.requires))
