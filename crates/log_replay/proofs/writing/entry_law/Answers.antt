use Rattle.std.proofs.Common.{ℕ, ◌<◌, ◌≤◌, ◌^◌, refl, arith}
use Rattle.statement.specs.Said.{said_of}
use Rattle.log_replay.specs.Spelling.{entry_bytes}
use Rattle.log_replay.proofs.AcceptingBatch.{text_reads}
use Rattle.log_replay.proofs.writing.entry_law.Goals as goal

pub returns-clause-reads : goal.returns-clause-reads
returns-clause-reads c =
    let s = said_of c.args.statement.now in
    let few : c.args.at < 2 ^ 64 = omega arith in
    let small : c.args.rule ≤ 65535 = omega arith in
    text_reads c.strict_items_are_spelled.ensures.again c.args.at c.args.rule s (c.shape_laws.ensures.entry c.args.at c.args.rule s.logged few small c.reads_again.ensures.short) small c.reads_again.ensures.reads

pub returns-clause-text : goal.returns-clause-text
unfolding entry_bytes
returns-clause-text c = refl
