use Rattle.std.proofs.Common.{◌≡◌, drop}
use Rattle.cbor_core.specs.Tree.{is_key}
use Rattle.cbor_core.proofs.same.has_key.Given as goal

abbrev pub invariant-loop-pair : goal.invariant-loop-pair
invariant-loop-pair l = is_key (drop l.pair-index l.pairs) l.item ≡ is_key l.pairs l.item
