use Rattle.registrar.specs.Turns.{consistency_call, read}
use Rattle.registrar.specs.Reading.{IsReadFault}
use Rattle.scrapi.proofs.Seating.{call_turned_to}
use Rattle.scrapi.proofs.seated.SeatedTurns.consistency.Goals as goal

pub returns-clause-turned : goal.returns-clause-turned
returns-clause-turned g c =
    call_turned_to g.D.Disk.fault_count c.args.self.now.seat.now c.consistency.new.seat (consistency_call c.args.old) (read c.consistency.result.0)
    (λ before now. IsReadFault before now c.consistency.result.0) c.consistency.result.1 c.consistency.ensures.turn (λ x y h. h) c.consistency.ensures.size
