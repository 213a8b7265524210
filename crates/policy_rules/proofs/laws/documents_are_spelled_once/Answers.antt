use Rattle.std.proofs.Common.{ap, ◌∙◌}
use Rattle.policy_rules.specs.Documents.{policy_in}
use Rattle.policy_rules.proofs.Whole.{document_is}
use Rattle.policy_rules.proofs.laws.documents_are_spelled_once.Goals as goal

pub returns-clause-spelled : goal.returns-clause-spelled
returns-clause-spelled c = document_is

pub returns-clause-meets : goal.returns-clause-meets
returns-clause-meets c item policy e = ap policy_in (document_is item policy e) ∙ e
