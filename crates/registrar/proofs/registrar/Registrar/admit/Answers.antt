use Rattle.std.proofs.Common.{inr, refl}
use Rattle.statement.specs.Said.{said_of}
use Rattle.registrar.proofs.Admitting.{admit_images, admit_stops, admit_adds}
use Rattle.registrar.proofs.registrar.Registrar.admit.Goals as goal

pub returns-in-Ok-put-clause-turn : goal.returns-in-Ok-put-clause-turn
returns-in-Ok-put-clause-turn g c =
    let adds = admit_adds c.args.self.now c.ready.new.self c.put.new.self.standing (said_of c.args.checked.now.statement) c.args.moment c.args.rule c.ready.new.self.room c.in-Ok.writes.needed c.in-Ok.writes.batch c.in-Ok.writes.receipt
    c.in-Ok.ensures.others c.in-Ok.ensures.made c.in-Ok-put.ensures.added in
    rw (c.size-index.ensures) (c.args.rule, c.requires.judged, adds.0, refl, adds.1)

pub returns-in-Ok-put-clause-images : goal.returns-in-Ok-put-clause-images
returns-in-Ok-put-clause-images g c = λ tells.
    admit_images g.D.Disk.held c.args.self.now c.ready.new.self (g.D.Disk.held c.put.new.self.disk) _ c.args.moment c.args.rule c.ready.new.self.room c.in-Ok.writes.needed c.in-Ok.writes.batch c.in-Ok.writes.receipt
    c.in-Ok.ensures.others c.requires.judged c.in-Ok.ensures.made (λ entries is. c.put.ensures.images tells entries is)

pub returns-clause-turn : goal.returns-clause-turn
returns-clause-turn g c =
    inr (inr (admit_stops c.args.self.now c.ready.new.self c.put.new.self.standing _ c.args.moment c.args.rule c.ready.new.self.room c.in-Ok.writes.needed c.in-Ok.writes.batch c.in-Ok.writes.receipt
    c.in-Ok.ensures.others c.requires.judged c.in-Ok.ensures.made (λ entries is. c.in-Err.ensures.failed entries is)))

pub returns-clause-images : goal.returns-clause-images
returns-clause-images g c = λ tells.
    admit_images g.D.Disk.held c.args.self.now c.ready.new.self (g.D.Disk.held c.put.new.self.disk) _ c.args.moment c.args.rule c.ready.new.self.room c.in-Ok.writes.needed c.in-Ok.writes.batch c.in-Ok.writes.receipt
    c.in-Ok.ensures.others c.requires.judged c.in-Ok.ensures.made (λ entries is. c.put.ensures.images tells entries is)
