use Rattle.std.proofs.Common.{◌≡◌, take}
use Rattle.cbor_core.proofs.same.+same.Given as goal

abbrev pub invariant-same_items-loop-i : goal.invariant-same_items-loop-i
invariant-same_items-loop-i l = take l.i l.a ≡ take l.i l.b

abbrev pub invariant-same_pairs-loop-i : goal.invariant-same_pairs-loop-i
invariant-same_pairs-loop-i l = take l.i l.a ≡ take l.i l.b
