use Rattle.std.proofs.Common.{take}
use Rattle.toml.specs.View.{items_view}
use Rattle.shown_forms.specs.Policies.{RuleTables}
use Rattle.shown_forms.proofs.policy.rules_of.Given as goal

abbrev pub invariant-loop-rule : goal.invariant-loop-rule
invariant-loop-rule l = RuleTables (take l.rule-index l.rules) (items_view l.tables.items)
