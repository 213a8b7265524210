use Rattle.log_params.proofs.OneParams.{one_answer, some_answer}
use Rattle.log_params.proofs.laws.params_have_one_answer.Goals as goal

pub returns-clause-some : goal.returns-clause-some
returns-clause-some c = some_answer c.whole_bytes_have_one_answer.ensures.either

pub returns-clause-one : goal.returns-clause-one
returns-clause-one c =
    one_answer c.whole_bytes_have_one_answer.ensures.one_item c.whole_bytes_have_one_answer.ensures.one_fault c.whole_bytes_have_one_answer.ensures.not_both
