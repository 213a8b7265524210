use Rattle.registrar.specs.Turns.{statement_call, read}
use Rattle.registrar.specs.Reading.{IsReadFault}
use Rattle.scrapi.proofs.Seating.{call_turned_to}
use Rattle.scrapi.proofs.seated.SeatedTurns.statement.Goals as goal

pub returns-clause-turned : goal.returns-clause-turned
returns-clause-turned g c =
    call_turned_to g.D.Disk.fault_count c.args.self.now.seat.now c.statement.new.seat (statement_call c.args.index) (read c.statement.result.0)
    (λ before now. IsReadFault before now c.statement.result.0) c.statement.result.1 c.statement.ensures.turn (λ x y h. h) c.statement.ensures.size
