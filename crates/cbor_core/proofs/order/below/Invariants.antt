use Rattle.std.proofs.Common.{◌≡◌, drop}
use Rattle.cbor_core.specs.Bytes.{is_below}
use Rattle.cbor_core.proofs.order.below.Given as goal

abbrev pub invariant-loop-i : goal.invariant-loop-i
invariant-loop-i l = is_below (drop l.i l.a) (drop l.i l.b) ≡ is_below l.a l.b
