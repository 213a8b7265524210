use Rattle.std.proofs.Common.{Err, sym, ap}
use Rattle.write_tool.proofs.Dues.{due_refused, due_ok, due_long}
use Rattle.write_tool.specs.Meaning.{meaning}
use Rattle.write_tool.proofs.run.answer.Goals as goal

pub returns-in_default-clause-due : goal.returns-in_default-clause-due
returns-in_default-clause-due g c = due_refused _ c.args.words.now _ _ (sym c.in_default.ensures) c.words_refused.ensures

pub returns-in-Err-TooLong-clause-due : goal.returns-in-Err-TooLong-clause-due
returns-in-Err-TooLong-clause-due g c =
    due_long _ c.args.words.now (meaning c.in-Some.command) (sym c.in-Some.ensures) _ _ _ c.in-Err-TooLong.field-0 c.in-Err-TooLong.ensures.reads c.in-Err-TooLong.field-0-is
    c.too_long.ensures (c.in-Err-TooLong.ensures.no_fault (λ e. cc))

pub returns-in-Ok-clause-due : goal.returns-in-Ok-clause-due
returns-in-Ok-clause-due g c =
    due_ok _ c.args.words.now (meaning c.in-Some.command) (sym c.in-Some.ensures) _ _ c.in-Ok.bytes c.as_slice.result.now c.answer_to.result c.as_slice.ensures.value c.in-Ok.ensures.reads
    c.answer_to.ensures.answered c.answer_to.ensures.status (c.in-Ok.ensures.no_fault (λ e. cc))
