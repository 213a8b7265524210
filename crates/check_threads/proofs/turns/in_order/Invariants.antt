use Rattle.std.proofs.Common.{◌≤◌}
use Rattle.check_threads.proofs.turns.in_order.Given as goal

abbrev pub invariant-loop-line : goal.invariant-loop-line
invariant-loop-line l = l.next ≤ 100
