use Rattle.std.proofs.Common.{◌≡◌, drop}
use Rattle.cose_sign1.specs.Headers.{first_fault, unprotected_fault}
use Rattle.cose_sign1.proofs.headers.check_unprotected.Given as goal

abbrev pub invariant-loop-entry : goal.invariant-loop-entry
invariant-loop-entry l =
    first_fault (unprotected_fault l.protected) (drop l.entry-index l.entries) ≡ first_fault (unprotected_fault l.protected) l.entries
