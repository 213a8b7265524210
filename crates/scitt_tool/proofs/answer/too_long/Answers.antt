use Rattle.std.proofs.Common.{◌≡◌, ◌≢◌, ℕ, List, ◌++◌, Bor, refl, sym, ap, ◌∙◌}
use Rattle.std.specs.Prelude.{codes}
use Rattle.std.specs.Fmt.{digits, decimal}
use Rattle.scitt_tool.specs.declared.command.Command.{Command as Read}
use Rattle.scitt_tool.specs.declared.command.Command.TheVariants.{Root, Show, Policy, Audit, Replay, Generate, Keygen, Sign, Attach, Verify, Consistent}
use Rattle.scitt_tool.specs.Answer.{Answer, line, too_long}
use Rattle.scitt_tool.specs.Command.{limit_of}
use Rattle.scitt_tool.specs.Meaning.{meaning}
use Rattle.scitt_tool.proofs.Auditing.{long_log}
use Rattle.scitt_tool.proofs.answer.too_long.Goals as goal

long_file : line (codes "too long " ++ decimal 16777216) ≡ codes "too long 16777216\n"
unfolding digits
long_file = refl

pub returns-in-Audit : goal.returns-in-Audit
returns-in-Audit c =
    rw c.in-Audit.is (c.fixed.ensures ∙ ap (λ (t : List ℕ). record { status = 8; text = t }) (sym long_log))

other_limit : (r : Read) → ((file : Bor (List ℕ)) → r ≢ Audit file) → limit_of (meaning r) ≡ 16777216
other_limit (Audit file) other = absurd (other file refl)
other_limit (Root file) other = refl
other_limit (Show file) other = refl
other_limit (Policy file) other = refl
other_limit (Replay file) other = refl
other_limit (Generate count) other = refl
other_limit (Keygen levels) other = refl
other_limit (Sign claims file) other = refl
other_limit (Attach statement receipt) other = refl
other_limit (Verify trust statement) other = refl
other_limit (Consistent trust receipt size root) other = refl

pub returns-in_default : goal.returns-in_default
returns-in_default c =
    c.fixed-in_default.ensures ∙ ap (λ (t : List ℕ). record { status = 8; text = t }) (sym long_file)
    ∙ ap too_long (sym (other_limit c.args.command.now c.in_default.not-Audit))
