use Rattle.std.proofs.Common.{◌≡◌, ◌+◌, ◌≤◌}
use Rattle.generator.specs.Tallies.{Holds, tally}
use Rattle.generator.proofs.filling.fill.Given as goal

abbrev pub invariant-loop-j : goal.invariant-loop-j
invariant-loop-j l = record {
  holds : Holds (tally l.j) l.log.standing;
  admitted : l.counts.admitted ≡ (tally l.j).admitted;
  denied : l.counts.denied ≡ (tally l.j).denied;
  few : l.counts.admitted + l.counts.denied ≤ l.j;
}
