-- The hasher takes in one end of a chain after another.
use Rattle.std.proofs.Common.{◌≡◌, ℕ, ◌+◌, ◌-◌, ◌*◌, ◌^◌, [], arith}
use Rattle.lms_ots.specs.Words.{part}
use Rattle.lms_ots.specs.Chains.{prefix, chain}
use Rattle.lms_ots.specs.Digits.{coef}
use Rattle.lms_ots.specs.OneTime.{d_pblc, key_of_ends, ots_candidate}
use Rattle.lms_ots.proofs.Hashing.{absorbed_first, absorbed_more}
use Rattle.lms_ots.proofs.one_time.candidate.Goals as goal

pub loop-i-init : goal.loop-i-init
loop-i-init c =
    let w = c.parameters-row.result.width in
    let f = λ (i : ℕ). chain c.args.at.now i (coef c.with_checksum-digits.result i w) (2 ^ w - 1) (part c.args.sig.now (36 + 32 * i) 32) in
    absorbed_first _ (prefix c.args.at.now d_pblc) f c.prefix.result c.prefix.ensures (c.update.ensures [] c.new-hasher.ensures)

pub loop-i-preserved : goal.loop-i-preserved
loop-i-preserved c =
    let w = c.parameters-row.result.width in
    let f = λ (i : ℕ). chain c.args.at.now i (coef c.with_checksum-digits.result i w) (2 ^ w - 1) (part c.args.sig.now (36 + 32 * i) 32) in
    let one = rw (c.top.ensures, c.coef-digit.ensures.value, c.hash_at-signed.ensures) at c.chain.ensures in
    absorbed_more _ (prefix c.args.at.now d_pblc) f c.loop-i.i c.chain.result one (c.update-in-loop-i.ensures _ c.loop-i.invariant)

pub returns : goal.returns
unfolding ots_candidate key_of_ends
returns c =
    let n : c.loop-i.i ≡ c.parameters-row.result.chains = omega arith in
    let whole = c.finalize.ensures _ c.loop-i.invariant in
    let digits = rw (c.message_hash.ensures, c.hash_at.ensures) at c.with_checksum-digits.ensures in
    rw (← digits, ← c.parameters-row.ensures.row) (rw n at whole)
