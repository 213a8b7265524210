use Rattle.std.proofs.Common.{◌≡◌, [], drop}
use Rattle.toml.specs.View.{items_view}
use Rattle.scitt_forms.specs.Fields.{each_onto}
use Rattle.scitt_forms.specs.Holders.{holder_at}
use Rattle.scitt_forms.proofs.policy.each_holder.Given as goal

abbrev pub invariant-values : goal.invariant-values
invariant-values l =
    each_onto (holder_at l.list) l.items (items_view (drop l.value-index l.value-items)) ≡ each_onto (holder_at l.list) [] (items_view l.value-items)
