use Rattle.std.proofs.Common.{ℕ, Some, Err, List, refl, sym, ap, ◌∙◌, subst}
use Rattle.std.specs.Global.{Vec}
use Rattle.scitt_tool.specs.declared.command.Command.{Command as Read}
use Rattle.scitt_tool.specs.Meaning.{meaning, all_read}
use Rattle.scitt_tool.specs.Command.{limit_of}
use Rattle.scitt_tool.specs.Reads.{ReadAll}
use Rattle.scitt_tool.proofs.Auditing.{due_audited}
use Rattle.scitt_tool.proofs.Dues.{due_refused, due_too_long, due_judged}
use Rattle.scitt_tool.proofs.run.answer.Goals as goal

pub returns-in_default-clause-due : goal.returns-in_default-clause-due
returns-in_default-clause-due g c =
    due_refused _ _ c.args.words.now _ _ _ (sym c.in_default.ensures) refl refl refl refl c.words_refused.ensures

pub returns-in-Ok-clause-due : goal.returns-in-Ok-clause-due
returns-in-Ok-clause-due g c =
    let reads = c.in-Ok.ensures.reads in
    due_judged _ _ c.args.words.now (meaning c.in-Some.command) _ _ (sym c.in-Some.ensures) reads.0 (all_read c.deref.result.now) c.judge.result c.stopped.result reads.1
    (λ empty. ap all_read (c.deref.ensures.value ∙ c.in-Ok.ensures.none empty))
    (subst (λ (items : List (Vec ℕ)). ReadAll (limit_of (meaning c.in-Some.command)) reads.0 (all_read items)) (sym c.deref.ensures.value) reads.2) c.judge.ensures.judged c.judge.ensures.status (c.in-Ok.ensures.no_fault (λ e. cc))
    c.judge.ensures.random_counts c.judge.ensures.key_counts c.stopped.ensures

pub returns-in-Err-TooLong-clause-due : goal.returns-in-Err-TooLong-clause-due
returns-in-Err-TooLong-clause-due g c =
    let stops = c.in-Err-TooLong.ensures.stops (ap Err c.in-Err-TooLong.field-0-is) in
    due_too_long _ _ c.args.words.now (meaning c.in-Some.command) stops.0 _ _ _ (sym c.in-Some.ensures) stops.1 (c.in-Err-TooLong.ensures.some (ap Err c.in-Err-TooLong.field-0-is)) stops.2 refl (c.in-Err-TooLong.ensures.no_fault (λ e. cc)) refl refl c.too_long.ensures

pub returns-in-Audit-clause-due : goal.returns-in-Audit-clause-due
returns-in-Audit-clause-due g c =
    due_audited _ _ c.args.words.now c.in-Audit.file.now _ _ (sym c.in-Some.ensures ∙ ap (λ (r : Read). Some (meaning r)) c.in-Audit.is) refl refl refl c.audit.result c.audit.ensures.audits
