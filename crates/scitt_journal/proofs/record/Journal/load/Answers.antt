use Rattle.std.proofs.Common.{refl}
use Rattle.scitt_journal.proofs.Seen.{found_at_rest}
use Rattle.scitt_journal.proofs.record.Journal.load.Goals as goal

pub returns-in-Ok-clause-loaded : goal.returns-in-Ok-clause-loaded
returns-in-Ok-clause-loaded g c = λ tells.
    let held = g.D.Disk.held in
    found_at_rest held (held c.args.disk) _ (c.in-Ok.ensures.synced tells) (c.in-Ok.ensures.finds tells) refl
