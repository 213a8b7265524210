use Rattle.scrapi.proofs.Seating.{look_turned_to}
use Rattle.scrapi.proofs.seated.SeatedTurns.size.Goals as goal

pub returns-clause-turned : goal.returns-clause-turned
returns-clause-turned g c =
    look_turned_to g.D.Disk.fault_count c.args.self.now.seat.now c.size.new.seat c.size.result c.size.ensures.turn c.size.ensures.size
