use Rattle.std.proofs.Common.{rules, sym, ◌∙◌}
use Rattle.scittd.proofs.opening.create_log.Goals as goal

pub returns-in-Err-clause-log_refused : goal.returns-in-Err-clause-log_refused
returns-in-Err-clause-log_refused g c = λ refused.
    (c.in_ok-params.params, c.in_ok-params.ensures.params, (c.in-Err.refused.why, search rules, (_, c.in-Err.ensures.stops)))
