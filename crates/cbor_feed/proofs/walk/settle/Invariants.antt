use Rattle.std.proofs.Common.{reverse, length}
use Rattle.cbor_feed.specs.Chains.{Chain, IsRead}
use Rattle.cbor_feed.proofs.walk.settle.Given as goal

abbrev pub invariant-loop-frame : goal.invariant-loop-frame
invariant-loop-frame l = record {
  chain : Chain l.g (reverse l.frames.items) l.held;
  item : IsRead l.g (reverse l.frames.items) l.held l.item l.end;
}

abbrev pub decreases-loop-frame : goal.decreases-loop-frame
decreases-loop-frame l = length l.frames.items
