use Rattle.cose_sign1.proofs.AnswerLemmas.{some_answer, one_answer}
use Rattle.cose_sign1.proofs.laws.messages_have_one_answer.Goals as goal

pub returns-clause-some : goal.returns-clause-some
returns-clause-some c = some_answer c.whole_bytes_have_one_answer.ensures.either

pub returns-clause-one : goal.returns-clause-one
returns-clause-one c =
    let laws = c.whole_bytes_have_one_answer.ensures in
    one_answer laws.not_both laws.one_item laws.one_fault laws.not_empty
