use Rattle.std.proofs.Common.{◌≡◌, ◌*◌, ◌≤◌}
use Rattle.lms_ots.specs.Digits.{shortfall}
use Rattle.lms_ots.proofs.digits.shortfall.Given as goal

abbrev pub invariant-loop-i : goal.invariant-loop-i
invariant-loop-i l = record {
  value : l.sum ≡ shortfall l.bytes l.width l.i;
  bound : l.sum ≤ l.top * l.i;
}
