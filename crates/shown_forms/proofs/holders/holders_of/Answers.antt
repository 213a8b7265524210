use Rattle.std.proofs.Common.{subst}
use Rattle.policy_rules.specs.declared.documents.Holder.{Holder}
use Rattle.toml.specs.View.{table_view}
use Rattle.toml.specs.declared.value.Value.{Table}
use Rattle.toml.proofs.Views.{view-Table}
use Rattle.shown_forms.specs.Policies.{HolderTable}
use Rattle.shown_forms.proofs.Growing.{holders_more}
use Rattle.shown_forms.proofs.holders.holders_of.Goals as goal

pub loop-holder-preserved : goal.loop-holder-preserved
loop-holder-preserved c =
    let said : HolderTable c.holder-item.result (table_view c.in_ok-table.table) = c.in_ok-table.ensures in
    let here = subst (λ (h : Holder). HolderTable h (table_view c.in_ok-table.table)) c.holder-item.is said in
    rw c.in_ok-push.ensures.items
    (holders_more c.args.holders.now c.loop-holder.holder-index c.holder-item.result c.loop-holder.tables.items (Table c.in_ok-table.table) (table_view c.in_ok-table.table)
    c.loop-holder-test.true (view-Table c.in_ok-table.table) c.loop-holder.invariant here)
