use Rattle.std.proofs.Common.{◌≡◌}
use Rattle.scittd.proofs.serving.work.Given as goal

abbrev pub invariant-loop-accepted : goal.invariant-loop-accepted
invariant-loop-accepted g l = l.seat.lock ≡ l.service
