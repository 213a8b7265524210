use Rattle.log_replay.proofs.Prefixes.{well, last_failing, fronts}
use Rattle.log_replay.proofs.laws.log_laws.Goals as goal

pub returns-clause-one_more : goal.returns-clause-one_more
returns-clause-one_more c = well

pub returns-clause-one_less : goal.returns-clause-one_less
returns-clause-one_less c = last_failing

pub returns-clause-fronts : goal.returns-clause-fronts
returns-clause-fronts c = fronts
