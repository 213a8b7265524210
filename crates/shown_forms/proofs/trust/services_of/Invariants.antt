use Rattle.std.proofs.Common.{take}
use Rattle.toml.specs.View.{items_view}
use Rattle.shown_forms.specs.Trusts.{ServiceTables}
use Rattle.shown_forms.proofs.trust.services_of.Given as goal

abbrev pub invariant-loop-service : goal.invariant-loop-service
invariant-loop-service l = ServiceTables (take l.service-index l.services) (items_view l.tables.items)
