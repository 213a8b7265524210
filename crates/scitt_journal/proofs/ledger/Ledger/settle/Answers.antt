use Rattle.std.proofs.Common.{ap}
use Rattle.scitt_journal.specs.Log.{Log}
use Rattle.scitt_journal.specs.Keeping.{pending_of}
use Rattle.scitt_journal.proofs.KeepingLemmas.{settle_leaves, settle_strays, settled_holds}
use Rattle.scitt_journal.proofs.ledger.Ledger.settle.Goals as goal

pub returns-in_err-repair-clause-images : goal.returns-in_err-repair-clause-images
returns-in_err-repair-clause-images g c = λ tells.
    rw (← c.self.view_is) (settle_leaves _ g.D.Disk.held c.self.inside.journal c.repair.new.self _ (pending_of c.self.inside.pending.value) c.moment_laws.ensures.still c.moment_laws.ensures.epoch c.crash_laws.ensures.at_rest tells c.self.invariant c.repair.ensures.untouched c.repair.ensures.any_moment)

pub returns-in_err-repair-clause-strays : goal.returns-in_err-repair-clause-strays
returns-in_err-repair-clause-strays g c = λ tells.
    rw (← c.self.view_is) (settle_strays _ g.D.Disk.held g.D.Disk.strays c.self.inside.journal c.repair.new.self _ (pending_of c.self.inside.pending.value) tells c.self.invariant c.repair.ensures.untouched c.repair.ensures.strays)

pub invariant_of-self-2 : goal.invariant_of-self-2
invariant_of-self-2 g c =
    rw c.settled.ensures (settled_holds _ g.D.Disk.held c.self.inside.journal c.repair.new.self _ (pending_of c.self.inside.pending.value) c.self.invariant c.in_ok-repair.ensures.ready (ap (λ (log : Log g.row.D.Denot). log.count) c.repair.ensures.others) c.repair.ensures.untouched (λ bodies body tells needed was. c.in_ok-repair.ensures.repaired bodies body tells needed was))

pub returns-clause-images : goal.returns-clause-images
returns-clause-images g c = λ tells.
    rw (← c.self.view_is) (settle_leaves _ g.D.Disk.held c.self.inside.journal c.repair.new.self _ (pending_of c.self.inside.pending.value) c.moment_laws.ensures.still c.moment_laws.ensures.epoch c.crash_laws.ensures.at_rest tells c.self.invariant c.repair.ensures.untouched c.repair.ensures.any_moment)

pub returns-clause-strays : goal.returns-clause-strays
returns-clause-strays g c = λ tells.
    rw (← c.self.view_is) (settle_strays _ g.D.Disk.held g.D.Disk.strays c.self.inside.journal c.repair.new.self _ (pending_of c.self.inside.pending.value) tells c.self.invariant c.repair.ensures.untouched c.repair.ensures.strays)
