use Rattle.std.proofs.Common.{nat_lt, ap, sym, ◌∙◌}
use Rattle.policy_eval.specs.Holds.{has_subject}
use Rattle.policy_eval.proofs.Counting.{any-count}
use Rattle.policy_eval.proofs.holding.subject_stands.Goals as goal

pub returns : goal.returns
returns c = ap (nat_lt 0) c.of_subject.ensures ∙ sym (any-count (has_subject c.args.subject.now) c.args.earlier.now.entries)
