use Rattle.log_replay.proofs.Telling.{agree}
use Rattle.log_replay.proofs.keys.verifies.Goals as goal

pub returns : goal.returns
returns c = agree _ _ c.hss_verify.ensures (c.key_laws.ensures.verifies _ _ _)
