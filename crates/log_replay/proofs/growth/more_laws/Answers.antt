use Rattle.log_replay.proofs.Homes.{reserve_adds, batch_adds}
use Rattle.log_replay.proofs.growth.more_laws.Goals as goal

pub returns : goal.returns
returns c = record { reserve = reserve_adds; batch = batch_adds }
