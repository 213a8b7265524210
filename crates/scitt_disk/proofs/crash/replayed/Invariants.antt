use Rattle.std.proofs.Common.{◌≡◌, take}
use Rattle.scitt_disk.specs.Changes.{fresh}
use Rattle.scitt_disk.specs.Calls.{replay}
use Rattle.scitt_disk.proofs.crash.replayed.Given as goal

abbrev pub invariant-loop-change : goal.invariant-loop-change
invariant-loop-change l =
    l.bytes.items ≡ (replay (fresh l.first) (take l.change-index l.changes)).seen
