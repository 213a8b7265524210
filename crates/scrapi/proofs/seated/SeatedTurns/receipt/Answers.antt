use Rattle.registrar.specs.Turns.{receipt_call, read}
use Rattle.registrar.specs.Reading.{IsReadFault}
use Rattle.scrapi.proofs.Seating.{call_turned_to}
use Rattle.scrapi.proofs.seated.SeatedTurns.receipt.Goals as goal

pub returns-clause-turned : goal.returns-clause-turned
returns-clause-turned g c =
    call_turned_to g.D.Disk.fault_count c.args.self.now.seat.now c.receipt.new.seat (receipt_call c.args.index) (read c.receipt.result.0)
    (λ before now. IsReadFault before now c.receipt.result.0) c.receipt.result.1 c.receipt.ensures.turn (λ x y h. h) c.receipt.ensures.size
