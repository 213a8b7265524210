use Rattle.auditor.proofs.calls.audit_bytes.Goals as goal

pub returns : goal.returns
returns c = c.report_of.ensures c.args.bytes.now c.in_ok-found.ensures
