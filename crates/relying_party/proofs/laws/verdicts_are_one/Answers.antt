use Rattle.relying_party.proofs.OneVerdict.{one_verdict, some_verdict}
use Rattle.relying_party.proofs.laws.verdicts_are_one.Goals as goal

pub returns-clause-some : goal.returns-clause-some
returns-clause-some c = some_verdict c.statements_have_one_answer.ensures.some

pub returns-clause-one : goal.returns-clause-one
returns-clause-one c = one_verdict c.statements_have_one_answer.ensures.one
