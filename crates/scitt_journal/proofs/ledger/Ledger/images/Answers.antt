use Rattle.std.proofs.Common.{refl}
use Rattle.scitt_journal.proofs.KeepingLemmas.{between_outside}
use Rattle.scitt_journal.proofs.ledger.Ledger.images.Goals as goal

pub returns : goal.returns
returns g c = λ tells image now.
    between_outside g.D.Disk.held c.self.inside.journal _ _ image c.self.view_is refl c.crash_laws.ensures.at_rest c.crash_laws.ensures.in_doubt (c.self.invariant.kept tells) now
