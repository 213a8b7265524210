use Rattle.std.proofs.Common.{◌≡◌, drop}
use Rattle.cose_sign1.specs.Kinds.{all_strings}
use Rattle.cose_sign1.proofs.kinds.strings.Given as goal

abbrev pub invariant-loop-item : goal.invariant-loop-item
invariant-loop-item l = all_strings (drop l.item-index l.items) ≡ all_strings l.items
