use Rattle.std.proofs.Common.{◌≡◌, ◌≤◌, List, ℕ, take}
use Rattle.scitt_disk.specs.Changes.{fresh}
use Rattle.scitt_disk.specs.Calls.{replay}
use Rattle.scitt_disk.proofs.crash.last_sync.Given as goal

abbrev pub invariant-loop-i : goal.invariant-loop-i
invariant-loop-i l =
    record {
      within : l.last ≤ l.i;
      synced : (first : List ℕ) → (replay (fresh first) (take l.i l.changes)).epoch.synced ≡ (replay (fresh first) (take l.last l.changes)).seen;
    }
