use Rattle.statement.specs.Said.{said_of}
use Rattle.registrar.specs.Turns.{register_call, registered}
use Rattle.registrar.specs.Fits.{IsFaultOf}
use Rattle.scrapi.proofs.Seating.{call_turned_to}
use Rattle.scrapi.proofs.seated.SeatedTurns.register.Goals as goal

pub returns-clause-turned : goal.returns-clause-turned
returns-clause-turned g c =
    call_turned_to g.D.Disk.fault_count c.args.self.now.seat.now c.register.new.seat (register_call (said_of c.args.checked.now.statement) c.args.moment) (registered c.register.result.0)
    (λ before now. IsFaultOf before now c.register.result.0) c.register.result.1 c.register.ensures.turn (λ x y h. h) c.register.ensures.size
