use Rattle.std.proofs.Common.{◌≡◌, ℕ, ◌+◌, ◌<◌, ◌≤◌, IsTrue, length, take, true}
use Rattle.hss_keys.specs.Levels.{capacity}
use Rattle.key_store.specs.Keys.{reserved_of, fits_at}
use Rattle.key_store.proofs.reading.read_reservations.Given as goal

abbrev pub invariant-loop-number : goal.invariant-loop-number
invariant-loop-number g l =
    record {
      within : l.number ≤ length l.fn.ledger.records;
      few : l.number ≤ l.reserved + 1;
      most : l.reserved ≤ capacity l.head.levels;
      others : l.ledger ≡ record l.fn.ledger { disk = l.ledger.disk };
      reserved : IsTrue g.D.Disk.tells → l.reserved ≡ reserved_of (take l.number l.fn.ledger.records);
      fits : IsTrue g.D.Disk.tells → (k : ℕ) → k < l.number → fits_at l.fn.ledger.records k ≡ true;
      held : IsTrue g.D.Disk.tells → g.D.Disk.held l.ledger.disk ≡ g.D.Disk.held l.fn.ledger.disk;
      faults : g.D.Disk.fault_count l.ledger.disk ≡ g.D.Disk.fault_count l.fn.ledger.disk;
      strays : IsTrue g.D.Disk.tells → g.D.Disk.strays l.ledger.disk ≡ g.D.Disk.strays l.fn.ledger.disk;
      same : g.D.Disk.same l.fn.ledger.disk l.ledger.disk;
    }
