use Rattle.std.proofs.Common.{◌≡◌, ◌-◌, ◌≤◌, length, is_some}
use Rattle.http_wire.specs.Taking.{Gathers}
use Rattle.http_wire.proofs.head.read_head.Given as goal

abbrev pub invariant-loop-head : goal.invariant-loop-head
invariant-loop-head g l = record {
  short : length l.held.items ≤ 8192;
  room : length l.headers ≡ 32;
  gathers : Gathers l.fn.held.items l.held.items (g.L.Source.left l.fn.link) (g.L.Source.left l.link);
  telling : is_some (g.L.Source.left l.link) ≡ is_some (g.L.Source.left l.fn.link);
  no_fault : g.L.Source.faults l.link ≡ g.L.Source.faults l.fn.link;
  keeps : g.L.Source.read_keeps l.fn.link l.link;
}

abbrev pub decreases-loop-head : goal.decreases-loop-head
decreases-loop-head g l = 8192 - length l.held.items
