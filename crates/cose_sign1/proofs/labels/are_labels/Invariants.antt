use Rattle.std.proofs.Common.{◌≡◌, drop}
use Rattle.cose_sign1.specs.Labels.{all_labels}
use Rattle.cose_sign1.proofs.labels.are_labels.Given as goal

abbrev pub invariant-loop-pair : goal.invariant-loop-pair
invariant-loop-pair l = all_labels (drop l.pair-index l.pairs) ≡ all_labels l.pairs
