use Rattle.std.proofs.Common.{take}
use Rattle.cose_sign1.specs.KeySet.{AreKeyItems}
use Rattle.cose_sign1.proofs.keys.key_items.Given as goal

abbrev pub invariant-loop-key : goal.invariant-loop-key
invariant-loop-key l = AreKeyItems (take l.key-index l.keys) l.items
