use Rattle.std.proofs.Common.{◌≡◌, drop}
use Rattle.cose_sign1.specs.Headers.{first_fault, protected_fault}
use Rattle.cose_sign1.proofs.headers.check_protected.Given as goal

abbrev pub invariant-loop-entry : goal.invariant-loop-entry
invariant-loop-entry l = first_fault protected_fault (drop l.entry-index l.entries) ≡ first_fault protected_fault l.entries
