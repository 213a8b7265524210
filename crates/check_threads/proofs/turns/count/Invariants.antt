use Rattle.std.proofs.Common.{◌≡◌}
use Rattle.check_threads.proofs.turns.count.Given as goal

abbrev pub invariant-loop : goal.invariant-loop
invariant-loop g l = (l.seat.lock ≡ l.lock) × (l.seat.weight ≡ l.fn.seat.weight)
