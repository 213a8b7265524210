use Rattle.std.proofs.Common.{subst}
use Rattle.relying_party.specs.Parties.{ServiceKey}
use Rattle.toml.specs.View.{table_view}
use Rattle.toml.specs.declared.value.Value.{Table}
use Rattle.toml.proofs.Views.{view-Table}
use Rattle.shown_forms.specs.Trusts.{ServiceTable}
use Rattle.shown_forms.proofs.Growing.{services_more}
use Rattle.shown_forms.proofs.trust.services_of.Goals as goal

pub loop-service-preserved : goal.loop-service-preserved
loop-service-preserved c =
    let said : ServiceTable c.service-item.result (table_view c.in_ok-table_of.field-0) = c.in_ok-table_of.ensures in
    let here = subst (λ (s : ServiceKey). ServiceTable s (table_view c.in_ok-table_of.field-0)) c.service-item.is said in
    rw c.in_ok-push.ensures.items
    (services_more c.args.services.now c.loop-service.service-index c.service-item.result c.loop-service.tables.items (Table c.in_ok-table_of.field-0) (table_view c.in_ok-table_of.field-0)
    c.loop-service-test.true (view-Table c.in_ok-table_of.field-0) c.loop-service.invariant here)
