use Rattle.std.proofs.Common.{arith}
use Rattle.std.proofs.lemmas.Grind.{common_steps}
use Rattle.scitt_journal.specs.Layout.{size_bytes}
use Rattle.scitt_journal.proofs.steps.fill.Goals as goal

pub returns-clause-items : goal.returns-clause-items
unfolding size_bytes
returns-clause-items c = grind (arith, common_steps)
