use Rattle.auditor.specs.Walks.{IsFound}
use Rattle.auditor.specs.Reports.{Reports}
use Rattle.auditor.proofs.Audited.{audits_said, audits_not, said_of_all}
use Rattle.auditor.proofs.calls.audit.Goals as goal

pub returns-in-Ok-clause-audits : goal.returns-in-Ok-clause-audits
returns-in-Ok-clause-audits g c =
    audits_said c.args.limit IsFound Reports _ _ c.in-Ok.found c.report_of.result c.in-Ok.ensures.audits c.report_of.ensures

pub returns-in-Ok-clause-all : goal.returns-in-Ok-clause-all
returns-in-Ok-clause-all g c =
    said_of_all c.args.limit IsFound Reports _ _ c.in-Ok.found c.report_of.result c.in-Ok.ensures.audits c.report_of.ensures c.in-Ok.ensures.end

pub returns-in-Err-clause-audits : goal.returns-in-Err-clause-audits
returns-in-Err-clause-audits g c =
    audits_not c.args.limit IsFound Reports _ _ c.in-Err.stop c.in-Err.ensures.audits
