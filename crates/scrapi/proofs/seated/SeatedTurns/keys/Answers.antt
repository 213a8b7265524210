use Rattle.std.specs.Result.{result_ok}
use Rattle.registrar.specs.Turns.{keys_call, made}
use Rattle.scitt_service.specs.Served.{Stays}
use Rattle.scrapi.proofs.Seating.{call_turned_to}
use Rattle.scrapi.proofs.seated.SeatedTurns.keys.Goals as goal

pub returns-clause-turned : goal.returns-clause-turned
returns-clause-turned g c =
    call_turned_to g.D.Disk.fault_count c.args.self.now.seat.now c.keys.new.seat keys_call (made (result_ok c.keys.result.0)) Stays c.keys.result.1 c.keys.ensures.turn (λ x y h. h) c.keys.ensures.size
