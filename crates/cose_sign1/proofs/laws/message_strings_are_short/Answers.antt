use Rattle.cose_sign1.proofs.ShortLemmas.{strings_short}
use Rattle.cose_sign1.proofs.laws.message_strings_are_short.Goals as goal

pub returns : goal.returns
returns c = strings_short
