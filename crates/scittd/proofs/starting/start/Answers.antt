use Rattle.std.proofs.lemmas.Result.{err_from_is_err_and}
use Rattle.scittd.proofs.Contents.{never_words}
use Rattle.scittd.proofs.starting.start.Goals as goal

pub returns-in_err-listener-clause-words : goal.returns-in_err-listener-clause-words
returns-in_err-listener-clause-words g c = λ refused.
    let p = err_from_is_err_and c.from_residual-in_err-listener.result c.from_residual-in_err-listener.ensures.1 in
    absurd (never_words _ p.0 _ c.in_err-listener.ensures.no_other p.2 p.1 refused)
