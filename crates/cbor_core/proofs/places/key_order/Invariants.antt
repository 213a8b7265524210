use Rattle.std.proofs.Common.{take}
use Rattle.cbor_core.specs.Order.{Ordered}
use Rattle.cbor_core.proofs.places.key_order.Given as goal

abbrev pub invariant-loop-i : goal.invariant-loop-i
invariant-loop-i l = Ordered 0 (take l.i l.pairs) l.order.items
