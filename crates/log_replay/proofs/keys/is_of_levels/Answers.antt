use Rattle.log_replay.proofs.Telling.{agree}
use Rattle.log_replay.proofs.keys.is_of_levels.Goals as goal

pub returns : goal.returns
returns c = agree _ _ c.names_levels.ensures (c.key_laws.ensures.names _ _)
