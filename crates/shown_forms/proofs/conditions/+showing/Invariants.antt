use Rattle.std.proofs.Common.{◌+◌, ◌*◌, take}
use Rattle.toml.specs.View.{items_view}
use Rattle.shown_forms.specs.Conditions.{PartValues}
use Rattle.shown_forms.proofs.conditions.+showing.Given as goal

abbrev pub decreases-value_of : goal.decreases-value_of
decreases-value_of l = 3 * l.deep

abbrev pub decreases-values_of : goal.decreases-values_of
decreases-values_of l = 3 * l.deep + 1

abbrev pub decreases-value_below : goal.decreases-value_below
decreases-value_below l = 3 * l.deep + 2

abbrev pub invariant-values_of-loop-part : goal.invariant-values_of-loop-part
invariant-values_of-loop-part l = PartValues l.deep (take l.part-index l.parts) (items_view l.values.items)
