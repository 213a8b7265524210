use Rattle.std.proofs.Common.{◌≡◌, ℕ, ◌≤◌, List, IsTrue, take, length}
use Rattle.scitt_journal.specs.State.{AtRest}
use Rattle.scitt_journal.specs.Keeping.{bodies_of}
use Rattle.scitt_journal.proofs.ledger.read_all.Given as goal

abbrev pub invariant-loop-number : goal.invariant-loop-number
invariant-loop-number g l =
    record {
      all : (bodies : List (List ℕ)) → IsTrue g.D.Disk.tells → AtRest g.D.Disk.held l.fn.journal bodies → bodies_of l.records.value ≡ take l.number bodies;
      count : length (bodies_of l.records.value) ≡ l.number;
      most : l.number ≤ l.fn.journal.count;
      others : l.journal ≡ record l.fn.journal { disk = l.journal.disk };
      held : IsTrue g.D.Disk.tells → g.D.Disk.held l.journal.disk ≡ g.D.Disk.held l.fn.journal.disk;
      rest : (bodies : List (List ℕ)) → IsTrue g.D.Disk.tells → AtRest g.D.Disk.held l.fn.journal bodies → AtRest g.D.Disk.held l.journal bodies;
      faults : g.D.Disk.fault_count l.journal.disk ≡ g.D.Disk.fault_count l.fn.journal.disk;
      strays : (bodies : List (List ℕ)) → IsTrue g.D.Disk.tells → AtRest g.D.Disk.held l.fn.journal bodies → g.D.Disk.strays l.journal.disk ≡ g.D.Disk.strays l.fn.journal.disk;
      same : g.D.Disk.same l.fn.journal.disk l.journal.disk;
    }
