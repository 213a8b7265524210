use Rattle.std.proofs.Common.{◌≡◌, ◌+◌, ◌-◌, ◌≤◌, is_some}
use Rattle.auditor.specs.Fetches.{HaveGone}
use Rattle.auditor.proofs.fetching.count_rest.Given as goal

abbrev pub invariant-loop-count : goal.invariant-loop-count
invariant-loop-count g l = record {
  gone : HaveGone l.done (g.S.Source.left l.fn.source) (g.S.Source.left l.source);
  short : l.done ≤ l.room;
  telling : is_some (g.S.Source.left l.source) ≡ is_some (g.S.Source.left l.fn.source);
  no_fault : g.S.Source.faults l.source ≡ g.S.Source.faults l.fn.source;
  keeps : g.S.Source.read_keeps l.fn.source l.source;
}

abbrev pub decreases-loop-count : goal.decreases-loop-count
decreases-loop-count g l = l.room + 1 - l.done
