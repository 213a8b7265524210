use Rattle.std.proofs.Common.{take}
use Rattle.toml.specs.View.{items_view}
use Rattle.shown_forms.specs.Policies.{HolderTables}
use Rattle.shown_forms.proofs.holders.holders_of.Given as goal

abbrev pub invariant-loop-holder : goal.invariant-loop-holder
invariant-loop-holder l = HolderTables (take l.holder-index l.holders) (items_view l.tables.items)
