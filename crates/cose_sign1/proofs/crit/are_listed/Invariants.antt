use Rattle.std.proofs.Common.{◌≡◌, drop}
use Rattle.cose_sign1.specs.Headers.{all_listed}
use Rattle.cose_sign1.specs.Understood.{Tells}
use Rattle.cose_sign1.proofs.crit.are_listed.Given as goal

abbrev pub invariant-loop-item : goal.invariant-loop-item
invariant-loop-item l = (all_listed l.protected (drop l.item-index l.items) ≡ all_listed l.protected l.items) × Tells l.protected l.here
