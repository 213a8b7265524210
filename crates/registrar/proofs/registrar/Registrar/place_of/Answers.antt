use Rattle.std.proofs.Common.{◌≡◌, ◌<◌, length, ap, sym, subst}
use Rattle.log_replay.specs.Records.{Log, entries_of}
use Rattle.registrar.specs.Seen.{log_of}
use Rattle.registrar.specs.Fits.{Registered}
use Rattle.registrar.specs.Reading.{IsPlace}
use Rattle.registrar.proofs.ReadingBack.{place_is}
use Rattle.registrar.proofs.registrar.Registrar.place_of.Goals as goal

pub returns : goal.returns
returns g c =
    let R = log_of c.self.inside.log.value in
    let same : R ≡ c.args.self.now.standing.log = ap (λ (v : Registered g.row.D.Denot). v.standing.log) c.self.view_is in
    let low = subst (λ (L : Log). c.args.index < length (entries_of L)) (sym same) c.requires in
    subst (λ (L : Log). IsPlace L c.args.index c.record_of.result c.leaf.result) same
    (place_is c.home_laws.ensures.home R c.args.index c.record_of.result c.leaf.result c.tree.result.now.leaves c.self.invariant.sound.log low
    (c.record_of.ensures R c.self.invariant.state) (c.tree.ensures R c.self.invariant.state) c.leaf.ensures)
