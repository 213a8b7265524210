use Rattle.std.proofs.Common.{◌≡◌, ◌+◌, ◌<◌, IfOk, length, take, ap, sym, subst, arith}
use Rattle.merkle_tree.specs.Paths.{path_of}
use Rattle.log_replay.specs.Records.{Log, leaves_of, entries_of}
use Rattle.registrar.specs.Seen.{log_of}
use Rattle.registrar.specs.Fits.{Registered}
use Rattle.registrar.proofs.ReadingBack.{front_hashes, front_short, short_path}
use Rattle.registrar.proofs.registrar.Registrar.path_to.Goals as goal

pub returns-clause-path : goal.returns-clause-path
returns-clause-path g c =
    let R = log_of c.self.inside.log.value in
    let same : R ≡ c.args.self.now.standing.log = ap (λ (v : Registered g.row.D.Denot). v.standing.log) c.self.view_is in
    subst (λ (L : Log). IfOk c.path.result (λ path. path ≡ path_of c.args.index (take (c.args.index + 1) (leaves_of L)))) same
    (c.path.ensures.of_entries (take (c.args.index + 1) (leaves_of R)) (front_hashes (c.args.index + 1) (leaves_of R) c.tree.result.now.leaves (c.tree.ensures R c.self.invariant.state)))

pub returns-clause-short : goal.returns-clause-short
returns-clause-short g c =
    let R = log_of c.self.inside.log.value in
    let same : R ≡ c.args.self.now.standing.log = ap (λ (v : Registered g.row.D.Denot). v.standing.log) c.self.view_is in
    let low : c.args.index < length (entries_of R) = subst (λ (L : Log). c.args.index < length (entries_of L)) (sym same) c.requires in
    let headed = c.self.invariant.headed in
    let bounds = c.growth_laws.ensures.bounds R headed.header c.self.invariant.sound.log headed.first in
    let limits = c.limit_laws.ensures.header R headed.header c.self.invariant.sound.log headed.first in
    let front = take (c.args.index + 1) (leaves_of c.args.self.now.standing.log) in
    let few = front_short (c.args.index + 1) (leaves_of c.args.self.now.standing.log) (omega (arith, low, bounds.0, limits.entries_most)) in
    short_path c.path.result (path_of c.args.index front) (returns-clause-path g c) (c.length_law.ensures.path c.args.index front few)
