use Rattle.relying_party.proofs.OneTrust.{one_answer, some_answer, trust_exact}
use Rattle.relying_party.proofs.laws.trust_files_have_one_answer.Goals as goal

pub returns-clause-some : goal.returns-clause-some
returns-clause-some c = some_answer c.whole_bytes_have_one_answer.ensures.either

pub returns-clause-one : goal.returns-clause-one
returns-clause-one c =
    one_answer c.whole_bytes_have_one_answer.ensures.one_item c.whole_bytes_have_one_answer.ensures.one_fault c.whole_bytes_have_one_answer.ensures.not_both

pub returns-clause-exact : goal.returns-clause-exact
returns-clause-exact c = trust_exact c.strict_item_is_exact.ensures.spelled c.strict_item_is_exact.ensures.given
