use Rattle.registrar.specs.Turns.{register_call, registered}
use Rattle.statement.specs.Said.{said_of}
use Rattle.scitt_answers.proofs.Sizes.{turn_grows}
use Rattle.scitt_answers.proofs.Holding.{call_turned}
use Rattle.scitt_answers.proofs.local.LocalTurns.register.Goals as goal

pub returns-clause-turned : goal.returns-clause-turned
returns-clause-turned g c =
    call_turned g.D.Disk.fault_count c.args.self.now.registrar.now c.register-outcome.new.self (register_call (said_of c.args.checked.now.statement) c.args.moment) (registered c.register-outcome.result)
    c.register-outcome.ensures.turn (turn_grows c.turn_laws.ensures.growth g.D.Disk.tells _ _ _ _ c.register-outcome.ensures.turn) c.register-outcome.ensures.cause c.size-size.ensures
