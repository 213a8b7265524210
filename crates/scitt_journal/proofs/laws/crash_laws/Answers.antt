use Rattle.scitt_journal.proofs.Stages.{closed_now, pending_now}
use Rattle.scitt_journal.proofs.laws.crash_laws.Goals as goal

pub returns : goal.returns
returns g c =
    record {
      at_rest = λ log bodies image was now.
          closed_now (g.D.Disk.held log.disk) log.marks.gate bodies image was.closed now;
      in_doubt = λ log bodies body image was now.
          pending_now (g.D.Disk.held log.disk) log.marks.gate bodies body image was.pending now;
    }
