use Rattle.key_store.proofs.HistoryLemmas.{runs_rise, runs_sound}
use Rattle.key_store.proofs.laws.key_laws.Goals as goal

pub returns : goal.returns
returns c = record { once = runs_rise; sound = runs_sound }
