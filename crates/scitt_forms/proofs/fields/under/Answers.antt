use Rattle.std.proofs.Common.{◌∙◌}
use Rattle.toml.proofs.Views.{table_get}
use Rattle.scitt_forms.proofs.fields.under.Goals as goal

pub returns : goal.returns
returns c = table_get c.get.result c.name.result.now c.args.table.now.entries c.get.ensures.value ∙ rw c.name.ensures
