use Rattle.std.proofs.Common.{◌≡◌, drop}
use Rattle.lms_tree.specs.Verifies.{hashes, root_from}
use Rattle.lms_tree.proofs.verifying.root_from.Given as goal

abbrev pub invariant-loop-i : goal.invariant-loop-i
invariant-loop-i l =
    root_from l.id l.number l.reached (drop l.i (hashes l.sig l.start l.count)) ≡ root_from l.fn.id l.fn.r l.fn.value (hashes l.sig l.start l.count)
