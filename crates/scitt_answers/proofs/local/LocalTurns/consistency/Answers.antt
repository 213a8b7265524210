use Rattle.registrar.specs.Turns.{consistency_call, read}
use Rattle.scitt_answers.proofs.Holding.{call_turned, standing_grows}
use Rattle.scitt_answers.proofs.local.LocalTurns.consistency.Goals as goal

pub returns-clause-turned : goal.returns-clause-turned
returns-clause-turned g c =
    call_turned g.D.Disk.fault_count c.args.self.now.registrar.now c.consistency-bytes.new.self (consistency_call c.args.old) (read c.consistency-bytes.result) c.consistency-bytes.ensures.turn
    (standing_grows c.args.self.now.registrar.now.standing c.consistency-bytes.new.self.standing c.consistency-bytes.ensures.turn.turns.0) c.consistency-bytes.ensures.fault c.size-size.ensures
