use Rattle.std.proofs.Common.{ap, ◌∙◌}
use Rattle.toml.specs.View.{members_view}
use Rattle.scitt_forms.specs.Fields.{name_of}
use Rattle.shown_forms.proofs.Putting.{insert_last}
use Rattle.shown_forms.proofs.tables.put.Goals as goal

pub returns-in-Ok : goal.returns-in-Ok
returns-in-Ok c =
    ap members_view c.in-Ok.ensures.entries
    ∙ insert_last c.in_ok-key.key (name_of c.args.word) c.args.value c.args.table.now.entries (c.in_ok-key.ensures.ok ∙ c.name.ensures) c.requires
