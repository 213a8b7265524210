use Rattle.cose_sign1.proofs.BareLemmas.{bare_is}
use Rattle.cose_sign1.proofs.MessageLemmas.{bare_spelled, bare_length}
use Rattle.cose_sign1.proofs.laws.bare_message_is_one.Goals as goal

pub returns-clause-message : goal.returns-clause-message
returns-clause-message c = bare_is

pub returns-clause-spelled : goal.returns-clause-spelled
returns-clause-spelled c = λ g p c s pf cf sf. (bare_spelled g p c s pf cf sf, bare_length p c s)
