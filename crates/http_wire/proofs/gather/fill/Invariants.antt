use Rattle.std.proofs.Common.{◌≡◌, ◌-◌, ◌≤◌, length, take, is_some}
use Rattle.http_wire.specs.Taking.{Gathers}
use Rattle.http_wire.proofs.gather.fill.Given as goal

abbrev pub invariant-loop-done : goal.invariant-loop-done
invariant-loop-done g l = record {
  within : l.done ≤ length l.bytes.items;
  most : length l.bytes.items ≤ l.size;
  gathers : Gathers l.fn.bytes.items (take l.done l.bytes.items) (g.L.Source.left l.fn.link) (g.L.Source.left l.link);
  telling : is_some (g.L.Source.left l.link) ≡ is_some (g.L.Source.left l.fn.link);
  no_fault : g.L.Source.faults l.link ≡ g.L.Source.faults l.fn.link;
  keeps : g.L.Source.read_keeps l.fn.link l.link;
}

abbrev pub decreases-loop-done : goal.decreases-loop-done
decreases-loop-done g l = l.size - l.done
