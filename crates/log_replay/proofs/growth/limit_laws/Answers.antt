use Rattle.log_replay.proofs.Limits.{header_is_within, fewer_records}
use Rattle.log_replay.proofs.growth.limit_laws.Goals as goal

pub returns : goal.returns
returns c = record { header = header_is_within; fewer = fewer_records c.levels_law.ensures.capacity }
