use Rattle.std.proofs.Common.{true}
use Rattle.registrar.proofs.PathLengths.{path_short, sub_short}
use Rattle.registrar.proofs.reading.length_law.Goals as goal

pub returns-clause-path : goal.returns-clause-path
returns-clause-path c = λ m entries few.
    path_short c.mth_laws.ensures.split c.path_laws.ensures.one c.path_laws.ensures.left c.path_laws.ensures.right 16 m entries few

pub returns-clause-proof : goal.returns-clause-proof
returns-clause-proof c = λ m entries few some inside.
    sub_short c.mth_laws.ensures.split c.proof_laws.ensures.whole c.proof_laws.ensures.left c.proof_laws.ensures.right 16 m true entries some inside few
