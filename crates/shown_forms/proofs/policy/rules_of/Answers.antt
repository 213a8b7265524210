use Rattle.std.proofs.Common.{subst}
use Rattle.policy_rules.specs.declared.documents.Rule.{Rule}
use Rattle.toml.specs.View.{table_view}
use Rattle.toml.specs.declared.value.Value.{Table}
use Rattle.toml.proofs.Views.{view-Table}
use Rattle.shown_forms.specs.Policies.{RuleTable}
use Rattle.shown_forms.proofs.Growing.{rules_more}
use Rattle.shown_forms.proofs.policy.rules_of.Goals as goal

pub loop-rule-preserved : goal.loop-rule-preserved
loop-rule-preserved c =
    let said : RuleTable c.rule-item.result (table_view c.in-Some.table) =
    rw c.in-Some.is at c.in_ok-table.ensures in
    let here = subst (λ (r : Rule). RuleTable r (table_view c.in-Some.table)) c.rule-item.is said in
    rw c.in_ok-push-in-Some.ensures.items
    (rules_more c.args.rules.now c.loop-rule.rule-index c.rule-item.result c.loop-rule.tables.items (Table c.in-Some.table) (table_view c.in-Some.table)
    c.loop-rule-test.true (view-Table c.in-Some.table) c.loop-rule.invariant here)
