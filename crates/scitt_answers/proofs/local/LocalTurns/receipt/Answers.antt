use Rattle.registrar.specs.Turns.{receipt_call, read}
use Rattle.scitt_answers.proofs.Holding.{call_turned, standing_grows}
use Rattle.scitt_answers.proofs.local.LocalTurns.receipt.Goals as goal

pub returns-clause-turned : goal.returns-clause-turned
returns-clause-turned g c =
    call_turned g.D.Disk.fault_count c.args.self.now.registrar.now c.receipt-bytes.new.self (receipt_call c.args.index) (read c.receipt-bytes.result) c.receipt-bytes.ensures.turn
    (standing_grows c.args.self.now.registrar.now.standing c.receipt-bytes.new.self.standing c.receipt-bytes.ensures.turn.turns.0) c.receipt-bytes.ensures.fault c.size-size.ensures
