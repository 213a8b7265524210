use Rattle.std.proofs.lemmas.Result.{err_from_is_err_and}
use Rattle.command_line.proofs.Reading.{some_content, read_chosen}
use Rattle.command_line.proofs.file.read_file.Goals as goal

pub returns-in_err-choose-clause-reads : goal.returns-in_err-choose-clause-reads
returns-in_err-choose-clause-reads g c =
    let content = some_content (g.F.Folder.files c.args.files.now) c.args.name.now in
    let stop = err_from_is_err_and c.from_residual.result c.from_residual.ensures.1 in
    rw (stop.1, stop.2) (content.0, content.1, tt)

pub returns-clause-reads : goal.returns-clause-reads
returns-clause-reads g c =
    read_chosen c.args.limit _ _ _ _ _ c.in_ok-choose.ensures.chosen c.read_to_end.ensures.takes c.read_to_end.ensures.all
