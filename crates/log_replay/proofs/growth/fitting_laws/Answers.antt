use Rattle.log_replay.proofs.Fitting.{admissible_fits, reserve_fits, header_fits}
use Rattle.log_replay.proofs.growth.fitting_laws.Goals as goal

pub returns : goal.returns
returns c = record { batch = admissible_fits; reserve = reserve_fits; header = header_fits }
