use Rattle.std.proofs.Common.{◌≡◌, List, Some, Err, map, rules, ap, sym, ◌∙◌}
use Rattle.std.specs.String.{string_bytes}
use Rattle.std.proofs.lemmas.Result.{err_from_is_err_and}
use Rattle.clap.specs.Words.{Text, found_of, rows_of}
use Rattle.scittd.specs.Words.{names_of}
use Rattle.scittd.specs.declared.fault.StartFault.TheVariants.{WordsRefused}
use Rattle.scittd.proofs.WordLemmas.{given_is, given_none}
use Rattle.scittd.proofs.given.given_by.Goals as goal

pub returns-in_err-matches-clause-refused : goal.returns-in_err-matches-clause-refused
returns-in_err-matches-clause-refused c = λ refused.
    let stop = err_from_is_err_and c.from_residual.result c.from_residual.ensures.1 in
    given_none _ (c.parsed.ensures.refused (search rules))

pub returns-in-Some-clause-given : goal.returns-in-Some-clause-given
returns-in-Some-clause-given c =
    given_is _ (rows_of (found_of c.in_ok-matches.matches)) (Some (names_of c.in-Some.given)) c.in_ok-matches.ensures.fits c.in_ok-matches.ensures.matches (search rules)

pub returns-clause-refused : goal.returns-clause-refused
returns-clause-refused c = λ refused.
    given_is _ (rows_of (found_of c.in_ok-matches.matches)) _ c.in_ok-matches.ensures.fits c.in_ok-matches.ensures.matches (search rules)
