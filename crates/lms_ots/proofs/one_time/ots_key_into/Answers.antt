-- The hasher takes in one end of a chain after another.
use Rattle.std.proofs.Common.{◌≡◌, ℕ, ◌-◌, ◌^◌, [], arith}
use Rattle.lms_ots.specs.Chains.{prefix, secret, chain}
use Rattle.lms_ots.specs.OneTime.{d_pblc, key_of_ends, ots_key}
use Rattle.lms_ots.proofs.Hashing.{absorbed_first, absorbed_more}
use Rattle.lms_ots.proofs.one_time.ots_key_into.Goals as goal

pub loop-i-init : goal.loop-i-init
loop-i-init c =
    let f = λ (i : ℕ). chain c.args.at.now i 0 (2 ^ c.parameters-row.result.width - 1) (secret c.args.at.now i c.args.seed.now) in
    absorbed_first _ (prefix c.args.at.now d_pblc) f c.prefix.result c.prefix.ensures (c.update.ensures [] c.new-hasher.ensures)

pub loop-i-preserved : goal.loop-i-preserved
loop-i-preserved c =
    let f = λ (i : ℕ). chain c.args.at.now i 0 (2 ^ c.parameters-row.result.width - 1) (secret c.args.at.now i c.args.seed.now) in
    let one = rw (c.top.ensures, c.ots_secret-secret.ensures) at c.chain.ensures in
    absorbed_more _ (prefix c.args.at.now d_pblc) f c.loop-i.i c.chain.result one (c.update-in-loop-i.ensures _ c.loop-i.invariant)

pub returns : goal.returns
unfolding ots_key key_of_ends
returns c =
    let n : c.loop-i.i ≡ c.parameters-row.result.chains = omega arith in
    let whole = c.finalize.ensures _ c.loop-i.invariant in
    rw (← c.parameters-row.ensures.row) (rw n at whole)
