use Rattle.std.proofs.Common.{sym, ◌∙◌}
use Rattle.policy_eval.specs.Counts.{is_pair}
use Rattle.policy_eval.proofs.Places.{place-position}
use Rattle.policy_eval.proofs.keys.pair_at.Goals as goal

pub returns-clause-at : goal.returns-clause-at
returns-clause-at c = c.get_index_of.ensures.index ∙ sym (place-position (is_pair c.args.pair) c.args.counts.now.entries)
