use Rattle.log_replay.proofs.Lookups.{kept_is_judge}
use Rattle.log_replay.proofs.Standing.{nothing_stands}
use Rattle.log_replay.proofs.Refusing.{failing_is_failing}
use Rattle.log_replay.proofs.Adding.{record_is_added}
use Rattle.log_replay.proofs.laws.state_laws.Goals as goal

pub returns-clause-judge : goal.returns-clause-judge
returns-clause-judge c = kept_is_judge

pub returns-clause-nothing : goal.returns-clause-nothing
returns-clause-nothing c = nothing_stands

pub returns-clause-failing : goal.returns-clause-failing
returns-clause-failing c = failing_is_failing c.tree_root_laws.ensures.of_entries

pub returns-clause-added : goal.returns-clause-added
returns-clause-added c = record_is_added c.tree_root_laws.ensures.of_entries
