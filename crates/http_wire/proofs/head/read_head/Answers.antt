use Rattle.std.proofs.Common.{◌<◌, inl, ap, length, arith, subst, sym}
use Rattle.std.proofs.lemmas.Result.{err_from_is_err_and}
use Rattle.std.proofs.lemmas.Bool.Decides.{nat_tests}
use Rattle.http_wire.specs.Heads.{Unfinished}
use Rattle.http_wire.specs.Requests.{EndsInside}
use Rattle.http_wire.proofs.Stopping.{fails_at, fails_lost, too_long, gathers_then}
use Rattle.http_wire.proofs.head.read_head.Goals as goal

pub returns-then-len-eq-HEAD_LIMIT-clause-stops : goal.returns-then-len-eq-HEAD_LIMIT-clause-stops
returns-then-len-eq-HEAD_LIMIT-clause-stops g c =
    let p = rw c.in-Ok-Partial.field-0-is at c.in-Ok-Partial.ensures in
    fails_at c.loop-head.invariant.gathers (too_long _ (omega arith) (subst Unfinished c.as_slice.ensures.value (p.partial, p.unfinished)))

pub returns-in_err-read_more-clause-stops : goal.returns-in_err-read_more-clause-stops
returns-in_err-read_more-clause-stops g c = let p = err_from_is_err_and c.from_residual.result c.from_residual.ensures.1 in rw (p.1, p.2) (fails_lost _ _ _ _ _ _ _ c.in_err-read_more.ensures.why c.loop-head.invariant.gathers.taken c.in_err-read_more.ensures.lost.1)

pub returns-else-is_empty-clause-stops : goal.returns-else-is_empty-clause-stops
returns-else-is_empty-clause-stops g c =
    let p = rw c.in-Ok-Partial.field-0-is at c.in-Ok-Partial.ensures in
    let unfinished : Unfinished c.loop-head.held.items = subst Unfinished c.as_slice.ensures.value (p.partial, p.unfinished) in
    let end = c.in_ok-read_more.ensures.end c.if-not-branch.true in
    let same = ap length end.0 in
    let some : 0 < length c.loop-head.held.items = grind (arith, nat_tests) in
    let gathered = c.in_ok-read_more.ensures.gathers in
    let short : length c.loop-head.held.items < 8192 = omega arith in
    fails_at (gathers_then c.loop-head.invariant.gathers gathered) (subst EndsInside (sym end.0) (inl (some, short, unfinished)), end.1)
