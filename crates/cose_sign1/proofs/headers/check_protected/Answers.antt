use Rattle.std.proofs.lemmas.Result.{err_from_is_err_and}
use Rattle.cose_sign1.specs.Headers.{protected_fault}
use Rattle.cose_sign1.proofs.WalkLemmas.{fault_stops, fault_goes, fault_ends}
use Rattle.cose_sign1.proofs.headers.check_protected.Goals as goal

pub returns-in_err-check_protected_entry : goal.returns-in_err-check_protected_entry
returns-in_err-check_protected_entry c =
    let p = err_from_is_err_and c.from_residual.result c.from_residual.ensures.1 in
    rw (p.1, p.2) (fault_stops protected_fault c.args.entries.now c.loop-entry.entry-index c.entry-item.result c.in_err-check_protected_entry.field-0.0 c.loop-entry-test.true c.entry-item.is c.in_err-check_protected_entry.ensures c.loop-entry.invariant)

pub loop-entry-preserved : goal.loop-entry-preserved
loop-entry-preserved c =
    fault_goes protected_fault c.args.entries.now c.loop-entry.entry-index c.entry-item.result c.loop-entry-test.true c.entry-item.is c.in_ok-check_protected_entry.ensures c.loop-entry.invariant

pub returns : goal.returns
returns c = fault_ends protected_fault c.args.entries.now c.loop-entry.entry-index c.loop-entry-test.false c.loop-entry.invariant
