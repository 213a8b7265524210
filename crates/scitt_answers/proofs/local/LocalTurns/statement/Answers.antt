use Rattle.registrar.specs.Turns.{statement_call, read}
use Rattle.scitt_answers.proofs.Holding.{call_turned, standing_grows}
use Rattle.scitt_answers.proofs.local.LocalTurns.statement.Goals as goal

pub returns-clause-turned : goal.returns-clause-turned
returns-clause-turned g c =
    call_turned g.D.Disk.fault_count c.args.self.now.registrar.now c.statement-bytes.new.self (statement_call c.args.index) (read c.statement-bytes.result) c.statement-bytes.ensures.turn
    (standing_grows c.args.self.now.registrar.now.standing c.statement-bytes.new.self.standing c.statement-bytes.ensures.turn.turns.0) c.statement-bytes.ensures.fault c.size-size.ensures
