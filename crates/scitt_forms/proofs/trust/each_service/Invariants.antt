use Rattle.std.proofs.Common.{◌≡◌, [], drop}
use Rattle.toml.specs.View.{items_view}
use Rattle.scitt_forms.specs.Fields.{each_onto}
use Rattle.scitt_forms.specs.Trusts.{service_at}
use Rattle.scitt_forms.proofs.trust.each_service.Given as goal

abbrev pub invariant-values : goal.invariant-values
invariant-values l = each_onto service_at l.items (items_view (drop l.value-index l.value-items)) ≡ each_onto service_at [] (items_view l.value-items)
