use Rattle.std.proofs.lemmas.Result.{err_from_is_err_and}
use Rattle.scitt_tool.proofs.Auditing.{some_content, audit_tells, audit_passes, is_too_long}
use Rattle.scitt_tool.proofs.audit.audit_file.Goals as goal

pub returns-in_err-choose-clause-reads : goal.returns-in_err-choose-clause-reads
returns-in_err-choose-clause-reads g c =
    let content = some_content (g.F.Folder.files c.args.files.now) c.args.name.now in
    let stop = err_from_is_err_and c.from_residual.result c.from_residual.ensures.1 in
    rw (stop.1, stop.2) (content.0, content.1, tt)

pub returns-in-Ok-clause-reads : goal.returns-in-Ok-clause-reads
returns-in-Ok-clause-reads g c =
    audit_tells c.args.limit (g.F.Folder.files c.args.files.now) c.args.name.now _ _ c.in-Ok.report c.in_ok-choose.ensures.chosen c.in-Ok.ensures.audits c.in-Ok.ensures.end

pub returns-in-Err-ReadFault-clause-reads : goal.returns-in-Err-ReadFault-clause-reads
returns-in-Err-ReadFault-clause-reads g c =
    let content = some_content (g.F.Folder.files c.args.files.now) c.args.name.now in
    (content.0, content.1, tt)

pub returns-in-Err-TooLong-clause-reads : goal.returns-in-Err-TooLong-clause-reads
returns-in-Err-TooLong-clause-reads g c =
    audit_passes c.args.limit (g.F.Folder.files c.args.files.now) c.args.name.now _ _ c.in_ok-choose.ensures.chosen
    (is_too_long c.args.limit _ _ c.in-Err-TooLong.field-0 c.in-Err-TooLong.field-0-is c.in-Err-TooLong.ensures.audits)

pub returns-in-Err-OutOfMemory-clause-reads : goal.returns-in-Err-OutOfMemory-clause-reads
returns-in-Err-OutOfMemory-clause-reads g c =
    let content = some_content (g.F.Folder.files c.args.files.now) c.args.name.now in
    (content.0, content.1, tt)
