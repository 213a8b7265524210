use Rattle.std.proofs.Common.{IsTrue}
use Rattle.statement.specs.Said.{said_of}
use Rattle.registrar.proofs.Ruling.{knows_within}
use Rattle.registrar.proofs.Admitting.{registers_settled, whole_images}
use Rattle.registrar.proofs.registrar.Registrar.run.Goals as goal

pub known-requires-clause-within : goal.known-requires-clause-within
known-requires-clause-within g c = knows_within c.settle.new.self.standing (said_of c.args.checked.now.statement) c.args.moment c.in-Known.index c.in-Known.ensures

pub returns-in-Known-clause-images : goal.returns-in-Known-clause-images
returns-in-Known-clause-images g c = λ tells.
    whole_images c.moment_laws.ensures.joined c.known.result c.args.self.now.standing c.settle.new.self.standing (g.D.Disk.held c.args.self.now.disk) (g.D.Disk.held c.settle.new.self.disk) (g.D.Disk.held c.known.new.self.disk) _ c.args.moment c.in-Ok.ensures.settled (c.settle.ensures.images tells) (c.known.ensures.images tells)

pub returns-in-Goes-clause-turn : goal.returns-in-Goes-clause-turn
returns-in-Goes-clause-turn g c =
    registers_settled (IsTrue g.D.Disk.tells) c.args.self.now.standing c.settle.new.self.standing c.admit.new.self.standing _ c.args.moment c.admit.result c.in-Ok.ensures.settled c.admit.ensures.turn c.admit.ensures.settled_first

pub returns-in-Goes-clause-images : goal.returns-in-Goes-clause-images
returns-in-Goes-clause-images g c = λ tells.
    whole_images c.moment_laws.ensures.joined c.admit.result c.args.self.now.standing c.settle.new.self.standing (g.D.Disk.held c.args.self.now.disk) (g.D.Disk.held c.settle.new.self.disk) (g.D.Disk.held c.admit.new.self.disk) _ c.args.moment c.in-Ok.ensures.settled (c.settle.ensures.images tells) (c.admit.ensures.images tells)
