use Rattle.std.proofs.Common.{ap}
use Rattle.registrar.specs.Turns.{Standing}
use Rattle.registrar.proofs.Adding.{put_images, stopped_images, batch_stops, on_err_of}
use Rattle.registrar.proofs.registrar.Registrar.put.Goals as goal

pub returns-in_err-add_reserve-clause-images : goal.returns-in_err-add_reserve-clause-images
returns-in_err-add_reserve-clause-images g c = λ tells entries is.
    stopped_images c.args.self.now.standing _ _ entries c.sound.ensures.log c.requires.well (c.add_reserve.ensures.images tells)

pub returns-clause-failed : goal.returns-clause-failed
returns-clause-failed g c =
    on_err_of c.add_batch.result c.add_batch.ensures.failed c.add_batch.ensures.pending (λ failed left entries is.
    batch_stops c.args.self.now.standing c.add_reserve.new.self.standing c.add_batch.new.self.standing c.args.batch.now.body.items c.in_ok-add_reserve.ensures.added failed left entries is)

pub returns-clause-images : goal.returns-clause-images
returns-clause-images g c = λ tells entries is.
    put_images c.moment_laws.ensures.joined c.args.self.now.standing c.add_reserve.new.self.standing _ (g.D.Disk.held c.add_reserve.new.self.disk) _ entries c.args.batch.now.body.items c.sound.ensures.log c.requires.well c.requires.fits (ap (λ (v : Standing). v.log) c.in_ok-add_reserve.ensures.added) is (c.add_reserve.ensures.images tells) (c.add_batch.ensures.images tells)
