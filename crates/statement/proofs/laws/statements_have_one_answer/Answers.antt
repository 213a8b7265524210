use Rattle.statement.proofs.AnswerLemmas.{some_answer, one_answer}
use Rattle.statement.proofs.laws.statements_have_one_answer.Goals as goal

pub returns-clause-some : goal.returns-clause-some
returns-clause-some c =
    some_answer c.messages_have_one_answer.ensures.some c.bare_message_is_one.ensures.message c.bare_message_is_one.ensures.spelled

pub returns-clause-one : goal.returns-clause-one
returns-clause-one c =
    one_answer c.messages_have_one_answer.ensures.one c.strict_spelling_is_unique.ensures
