use Rattle.std.specs.Result.{result_ok}
use Rattle.registrar.specs.Turns.{policy_call, made}
use Rattle.scitt_service.specs.Served.{Stays}
use Rattle.scrapi.proofs.Seating.{call_turned_to}
use Rattle.scrapi.proofs.seated.SeatedTurns.policy.Goals as goal

pub returns-clause-turned : goal.returns-clause-turned
returns-clause-turned g c =
    call_turned_to g.D.Disk.fault_count c.args.self.now.seat.now c.policy.new.seat policy_call (made (result_ok c.policy.result.0)) Stays c.policy.result.1 c.policy.ensures.turn (λ x y h. h) c.policy.ensures.size
