use Rattle.std.proofs.Common.{◌≡◌, ◌+◌, ◌*◌, [], drop}
use Rattle.toml.specs.View.{items_view}
use Rattle.scitt_forms.specs.Fields.{each_onto}
use Rattle.scitt_forms.specs.Conditions.{cond_said}
use Rattle.scitt_forms.proofs.conditions.+saying.Given as goal

abbrev pub decreases-cond_of : goal.decreases-cond_of
decreases-cond_of l = 8 * l.depth

abbrev pub decreases-conds_of : goal.decreases-conds_of
decreases-conds_of l = 8 * l.depth + 1

abbrev pub decreases-parts_of : goal.decreases-parts_of
decreases-parts_of l = 8 * l.depth + 2

abbrev pub decreases-joined : goal.decreases-joined
decreases-joined l = 8 * l.depth + 3

abbrev pub decreases-not_of : goal.decreases-not_of
decreases-not_of l = 8 * l.depth + 3

abbrev pub decreases-cond_by : goal.decreases-cond_by
decreases-cond_by l = 8 * l.depth + 4

abbrev pub decreases-cond_of_table : goal.decreases-cond_of_table
decreases-cond_of_table l = 8 * l.depth + 5

abbrev pub decreases-cond_below : goal.decreases-cond_below
decreases-cond_below l = 8 * l.depth + 6

abbrev pub invariant-conds_of-values : goal.invariant-conds_of-values
invariant-conds_of-values l =
    each_onto (λ i. cond_said l.place l.depth) l.items (items_view (drop l.value-index l.value-items))
    ≡ each_onto (λ i. cond_said l.place l.depth) [] (items_view l.value-items)
