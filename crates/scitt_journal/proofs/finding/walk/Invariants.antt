use Rattle.std.proofs.Common.{◌≡◌, ◌<◌, ◌≤◌, ◌-◌, ◌*◌, IsTrue, vec_len}
use Rattle.scitt_journal.proofs.Scans.{Scanned}
use Rattle.scitt_journal.proofs.finding.walk.Given as goal

abbrev pub invariant-records : goal.invariant-records
invariant-records g l =
    record {
      within : l.gate < l.len;
      bound : l.gate ≤ vec_len l.offsets * 4294967300;
      kept : IsTrue g.D.Disk.tells → g.D.Disk.held l.disk ≡ g.D.Disk.held l.fn.disk;
      count : g.D.Disk.fault_count l.disk ≡ g.D.Disk.fault_count l.fn.disk;
      strays : IsTrue g.D.Disk.tells → g.D.Disk.strays l.disk ≡ g.D.Disk.strays l.fn.disk;
      same : g.D.Disk.same l.fn.disk l.disk;
      scanned : IsTrue g.D.Disk.tells → Scanned (g.D.Disk.held l.fn.disk).seen l.gate l.offsets.items;
    }

abbrev pub decreases-records : goal.decreases-records
decreases-records g l = l.len - l.gate
