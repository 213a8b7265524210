use Rattle.std.proofs.lemmas.Result.{err_from_is_err_and}
use Rattle.cose_sign1.specs.Headers.{unprotected_fault}
use Rattle.cose_sign1.proofs.WalkLemmas.{fault_stops, fault_goes, fault_ends}
use Rattle.cose_sign1.proofs.headers.check_unprotected.Goals as goal

pub returns-in_err-check_unprotected_entry : goal.returns-in_err-check_unprotected_entry
returns-in_err-check_unprotected_entry c =
    let p = err_from_is_err_and c.from_residual.result c.from_residual.ensures.1 in
    rw (p.1, p.2) (fault_stops (unprotected_fault c.args.protected.now) c.args.entries.now c.loop-entry.entry-index c.entry-item.result c.in_err-check_unprotected_entry.field-0.0 c.loop-entry-test.true c.entry-item.is c.in_err-check_unprotected_entry.ensures c.loop-entry.invariant)

pub loop-entry-preserved : goal.loop-entry-preserved
loop-entry-preserved c =
    fault_goes (unprotected_fault c.args.protected.now) c.args.entries.now c.loop-entry.entry-index c.entry-item.result c.loop-entry-test.true c.entry-item.is c.in_ok-check_unprotected_entry.ensures c.loop-entry.invariant

pub returns : goal.returns
returns c = fault_ends (unprotected_fault c.args.protected.now) c.args.entries.now c.loop-entry.entry-index c.loop-entry-test.false c.loop-entry.invariant
