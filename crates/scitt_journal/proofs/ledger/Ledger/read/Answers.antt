use Rattle.std.proofs.Common.{IsTrue}
use Rattle.scitt_journal.specs.Keeping.{bodies_of, pending_of}
use Rattle.scitt_journal.proofs.KeepingLemmas.{body_read, read_strays}
use Rattle.scitt_journal.proofs.ledger.Ledger.read.Goals as goal

pub returns-clause-body : goal.returns-clause-body
returns-clause-body g c =
    rw (← c.self.view_is) (body_read g.D.Disk.held (IsTrue g.D.Disk.tells) (λ x. x.items) c.self.inside.journal (bodies_of c.self.inside.records.value) (pending_of c.self.inside.pending.value) c.args.number c.body.result c.self.invariant.kept c.body.ensures.body c.body.ensures.in_doubt)

pub returns-clause-strays : goal.returns-clause-strays
returns-clause-strays g c = λ tells.
    rw (← c.self.view_is) (read_strays g.D.Disk.held (IsTrue g.D.Disk.tells) g.D.Disk.strays _ c.self.inside.journal (bodies_of c.self.inside.records.value) (pending_of c.self.inside.pending.value) tells c.self.invariant.kept c.body.ensures.strays c.body.ensures.strays_in_doubt)
