use Rattle.log_replay.proofs.Homes.{entry_has_home, batches_are_entries}
use Rattle.log_replay.proofs.growth.home_laws.Goals as goal

pub returns : goal.returns
returns c = record { home = entry_has_home; count = batches_are_entries }
