use Rattle.std.proofs.Common.{◌≡◌, drop}
use Rattle.cose_sign1.specs.Labels.{value_at}
use Rattle.cose_sign1.proofs.labels.find.Given as goal

abbrev pub invariant-loop-pair : goal.invariant-loop-pair
invariant-loop-pair l = value_at l.n (drop l.pair-index l.pairs) ≡ value_at l.n l.pairs
