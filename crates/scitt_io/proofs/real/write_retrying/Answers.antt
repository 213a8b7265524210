use Rattle.scitt_io.proofs.Reading.{keeps_then}
use Rattle.scitt_io.proofs.real.write_retrying.Goals as goal

pub returns-in_default-clause-bytes : goal.returns-in_default-clause-bytes
returns-in_default-clause-bytes g c = keeps_then _ _ _ c.loop.invariant c.in-Err.ensures.bytes
