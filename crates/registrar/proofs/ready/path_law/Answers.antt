use Rattle.std.proofs.Common.{arith}
use Rattle.registrar.proofs.PathLengths.{path_short}
use Rattle.registrar.proofs.ready.path_law.Goals as goal

pub returns : goal.returns
returns c = λ m entries some short.
    let within = path_short c.mth_laws.ensures.split c.path_laws.ensures.one c.path_laws.ensures.left c.path_laws.ensures.right 17 m entries (omega (arith, short)) in
    omega (arith, within)
