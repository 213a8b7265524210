use Rattle.statement.specs.Said.{said_of}
use Rattle.registrar.specs.Turns.{key_hint_call, hint}
use Rattle.scitt_service.specs.Served.{Stays}
use Rattle.scrapi.proofs.Seating.{call_turned}
use Rattle.scrapi.proofs.seated.SeatedTurns.key_hint.Goals as goal

pub returns-clause-turned : goal.returns-clause-turned
returns-clause-turned g c =
    call_turned g.D.Disk.fault_count c.args.self.now.seat.now c.key_hint.new.seat (key_hint_call (said_of c.args.statement.now)) (hint c.key_hint.result) Stays c.key_hint.ensures.turn (λ x y h. h)
