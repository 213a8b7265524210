use Rattle.std.proofs.Common.{◌≡◌, ◌-◌, ◌^◌, min, List, ℕ, take}
use Rattle.scitt_disk.specs.Images.{greatest}
use Rattle.scitt_disk.specs.Changes.{fresh}
use Rattle.scitt_disk.specs.Calls.{replay}
use Rattle.scitt_disk.proofs.crash.written_end.Given as goal

abbrev pub invariant-loop-change : goal.invariant-loop-change
invariant-loop-change l =
    (first : List ℕ) → l.end ≡ min (greatest 0 (replay (fresh first) (take l.change-index l.changes)).epoch.written) (2 ^ 64 - 1)
