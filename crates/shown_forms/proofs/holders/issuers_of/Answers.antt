use Rattle.std.proofs.Common.{subst}
use Rattle.relying_party.specs.declared.trust.Issuer.{Issuer}
use Rattle.toml.specs.View.{table_view}
use Rattle.toml.specs.declared.value.Value.{Table}
use Rattle.toml.proofs.Views.{view-Table}
use Rattle.shown_forms.specs.Policies.{HolderTable}
use Rattle.shown_forms.specs.Trusts.{holder_of}
use Rattle.shown_forms.proofs.Growing.{issuers_more}
use Rattle.shown_forms.proofs.holders.issuers_of.Goals as goal

pub loop-issuer-preserved : goal.loop-issuer-preserved
loop-issuer-preserved c =
    let said : HolderTable (holder_of c.issuer-item.result) (table_view c.in_ok-table.table) = c.in_ok-table.ensures in
    let here = subst (λ (x : Issuer). HolderTable (holder_of x) (table_view c.in_ok-table.table)) c.issuer-item.is said in
    rw c.in_ok-push.ensures.items
    (issuers_more c.args.issuers.now c.loop-issuer.issuer-index c.issuer-item.result c.loop-issuer.tables.items (Table c.in_ok-table.table) (table_view c.in_ok-table.table)
    c.loop-issuer-test.true (view-Table c.in_ok-table.table) c.loop-issuer.invariant here)
