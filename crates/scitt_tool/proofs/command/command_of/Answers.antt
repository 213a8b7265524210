use Rattle.std.proofs.Common.{◌∙◌, sym}
use Rattle.scitt_tool.proofs.Words.{two, seven}
use Rattle.scitt_tool.proofs.command.command_of.Goals as goal

pub returns-in-2 : goal.returns-in-2
returns-in-2 c =
    c.with_one.ensures
    ∙ sym (two c.args.words.now c.word.result.now c.word-in-2.result.now (sym c.len.ensures ∙ c.in-2.is) c.word.ensures c.word-in-2.ensures)

pub returns-in-7 : goal.returns-in-7
returns-in-7 c =
    c.with_six.ensures
    ∙ sym (seven c.args.words.now c.word-in-7.result.now c.word-in-7-2.result.now c.word-in-7-3.result.now c.word-in-7-4.result.now c.word-in-7-5.result.now c.word-in-7-6.result.now c.word-in-7-7.result.now (sym c.len.ensures ∙ c.in-7.is) c.word-in-7.ensures c.word-in-7-2.ensures c.word-in-7-3.ensures c.word-in-7-4.ensures c.word-in-7-5.ensures c.word-in-7-6.ensures c.word-in-7-7.ensures)
