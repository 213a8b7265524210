use Rattle.std.proofs.Common.{nat_lt, ap, sym, ◌∙◌, ◌&&◌}
use Rattle.policy_eval.specs.Holds.{has_issuer, has_subject}
use Rattle.policy_eval.proofs.Counting.{any-count}
use Rattle.policy_eval.proofs.holding.stands_with.Goals as goal

pub returns : goal.returns
returns c = ap (nat_lt 0) c.of_both.ensures ∙ sym (any-count (λ f. has_subject c.args.subject.now f && has_issuer c.args.issuer.now f) c.args.earlier.now.entries)
