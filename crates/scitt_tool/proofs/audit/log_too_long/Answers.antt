use Rattle.std.proofs.Common.{ℕ, List, sym, ap, ◌∙◌}
use Rattle.scitt_tool.proofs.Auditing.{long_log}
use Rattle.scitt_tool.proofs.audit.log_too_long.Goals as goal

pub returns : goal.returns
returns c = c.fixed.ensures ∙ ap (λ (t : List ℕ). record { status = 8; text = t }) (sym long_log)
