use Rattle.std.proofs.Common.{◌≡◌}
use Rattle.check_threads.proofs.turns.add_all.Given as goal

abbrev pub invariant-loop-turn : goal.invariant-loop-turn
invariant-loop-turn g l = (l.seat.lock ≡ l.lock) × (l.seat.weight ≡ l.fn.seat.weight)
