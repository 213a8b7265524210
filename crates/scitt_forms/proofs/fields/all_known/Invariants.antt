use Rattle.std.proofs.Common.{◌≡◌}
use Rattle.toml.specs.View.{members_view}
use Rattle.scitt_forms.specs.Fields.{all_known}
use Rattle.scitt_forms.proofs.fields.all_known.Given as goal

abbrev pub invariant-members : goal.invariant-members
invariant-members l = all_known l.known (members_view l.fn.table.entries) ≡ all_known l.known (members_view l.key-iterator)
