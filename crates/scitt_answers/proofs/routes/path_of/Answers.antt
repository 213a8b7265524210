use Rattle.std.proofs.Common.{◌∙◌, arith}
use Rattle.std.proofs.lemmas.Str.Pattern.{split_once_first}
use Rattle.scitt_answers.proofs.Paths.{path_is, path_whole}
use Rattle.scitt_answers.proofs.routes.path_of.Goals as goal

pub returns-in-Some : goal.returns-in-Some
returns-in-Some c =
    let parts = split_once_first 63 c.args.target.now c.split_once.result c.split_once.ensures.cases (omega arith) in
    let found = rw c.in-Some.is at parts in
    found.1 ∙ path_is c.args.target.now

pub returns-in-None : goal.returns-in-None
returns-in-None c =
    let parts = split_once_first 63 c.args.target.now c.split_once.result c.split_once.ensures.cases (omega arith) in
    let whole = rw c.in-None.is at parts in
    path_whole c.args.target.now whole
