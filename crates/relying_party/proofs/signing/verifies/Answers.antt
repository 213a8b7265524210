use Rattle.relying_party.proofs.Telling.{agree}
use Rattle.relying_party.proofs.signing.verifies.Goals as goal

pub returns : goal.returns
returns c = agree _ _ c.hss_verify.ensures (c.key_laws.ensures.verifies _ _ _)
