use Rattle.std.proofs.Common.{sym, ◌∙◌}
use Rattle.cbor_core.proofs.RowLemmas.{IsOpen-from}
use Rattle.cbor_core.proofs.reading.open.Goals as goal

pub returns-in-None-clause-fine : goal.returns-in-None-clause-fine
returns-in-None-clause-fine c =
    IsOpen-from c.args.g c.args.room c.in-Ok.found.0 c.in-Ok.found.1.now c.in-Ok.ensures.fits.0 c.in-Ok.ensures.fits.1 (sym c.fault_of.ensures ∙ c.in-None.is)
