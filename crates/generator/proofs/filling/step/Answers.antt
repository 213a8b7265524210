use Rattle.std.proofs.Common.{◌+◌, ◌∙◌, arith}
use Rattle.generator.proofs.Tallying.{room_at, step_holds, step_counts}
use Rattle.generator.proofs.filling.step.Goals as goal

pub register-requires-clause-room : goal.register-requires-clause-room
register-requires-clause-room c = room_at c.args.j _ c.requires.few c.requires.holds

pub returns-clause-holds : goal.returns-clause-holds
returns-clause-holds c =
    step_holds c.args.j c.args.log.now.standing c.register.new.log.standing c.as_slice.result.now _ c.register.result c.register.ensures (c.as_slice.ensures ∙ c.in_ok-bytes.ensures.statement) (omega arith)
    c.requires.few c.requires.holds

pub returns-clause-counts : goal.returns-clause-counts
returns-clause-counts c =
    step_counts c.args.j c.args.log.now.standing c.register.new.log.standing c.as_slice.result.now _ c.register.result c.register.ensures (c.as_slice.ensures ∙ c.in_ok-bytes.ensures.statement) (omega arith)
    c.requires.few c.requires.holds
