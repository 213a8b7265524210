use Rattle.std.proofs.Common.{◌<◌, length}
use Rattle.auditor.specs.Walks.{IsAt}
use Rattle.auditor.proofs.walk.walk_over.Given as goal

abbrev pub invariant-records : goal.invariant-records
invariant-records l = record {
  at : IsAt l.bytes l.rest l.walk;
  some : 0 < length l.rest;
}

abbrev pub decreases-records : goal.decreases-records
decreases-records l = length l.rest
