use Rattle.std.proofs.Common.{inl, inr, rules}
use Rattle.std.proofs.lemmas.Result.{IfOk-weaker}
use Rattle.scittd.proofs.opening.open_log.Goals as goal

pub returns-in-NoLog-clause-log : goal.returns-in-NoLog-clause-log
returns-in-NoLog-clause-log g c =
    IfOk-weaker c.create_log.result _ _ (λ r begun. inr ((λ tells. (search rules)), begun.1)) c.create_log.ensures.log

pub returns-in-Ok-clause-log : goal.returns-in-Ok-clause-log
returns-in-Ok-clause-log g c = inl c.in-Ok.ensures.recovered
