use Rattle.scitt_answers.proofs.Holding.{look_turned}
use Rattle.scitt_answers.proofs.local.LocalTurns.size.Goals as goal

pub returns-clause-turned : goal.returns-clause-turned
returns-clause-turned g c = look_turned g.D.Disk.fault_count c.args.self.now.registrar.now c.sound.ensures c.size.ensures
