use Rattle.log_replay.proofs.Fitting.{reserve_rises, index_rises, entry_is_new}
use Rattle.log_replay.proofs.growth.record_laws.Goals as goal

pub returns : goal.returns
returns c = record { reserve = reserve_rises; index = index_rises; entry = entry_is_new }
