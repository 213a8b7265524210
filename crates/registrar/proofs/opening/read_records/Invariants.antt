use Rattle.std.proofs.Common.{◌≡◌, ◌≤◌, IsTrue, length, take}
use Rattle.log_replay.specs.StateSeen.{StandsFor}
use Rattle.registrar.specs.Seen.{log_of}
use Rattle.registrar.proofs.opening.read_records.Given as goal

abbrev pub invariant-loop-number : goal.invariant-loop-number
invariant-loop-number g l =
    record {
      within : l.number ≤ length l.fn.ledger.records;
      stands : StandsFor l.found.state (log_of l.found.log.value);
      counted : length (log_of l.found.log.value) ≡ l.number;
      told : IsTrue g.D.Disk.tells → log_of l.found.log.value ≡ take l.number l.fn.ledger.records;
      others : l.ledger ≡ record l.fn.ledger { disk = l.ledger.disk };
      held : IsTrue g.D.Disk.tells → g.D.Disk.held l.ledger.disk ≡ g.D.Disk.held l.fn.ledger.disk;
      faults : g.D.Disk.fault_count l.ledger.disk ≡ g.D.Disk.fault_count l.fn.ledger.disk;
      strays : IsTrue g.D.Disk.tells → g.D.Disk.strays l.ledger.disk ≡ g.D.Disk.strays l.fn.ledger.disk;
      same : g.D.Disk.same l.fn.ledger.disk l.ledger.disk;
    }
