use Rattle.std.proofs.Common.{take, arith}
use Rattle.scitt_disk.specs.Changes.{fresh}
use Rattle.scitt_disk.specs.Calls.{replay}
use Rattle.scitt_disk.proofs.CrashLemmas.{replay-take_more}
use Rattle.scitt_disk.proofs.crash.replayed.Goals as goal

pub loop-change-preserved : goal.loop-change-preserved
loop-change-preserved c =
    let changes = c.args.changes.now in
    let step = replay-take_more (fresh c.args.first.now) changes c.loop-change.change-index c.change-item.result (omega arith) c.change-item.is in
    rw step (c.in_ok-repeat_change.ensures (replay (fresh c.args.first.now) (take c.loop-change.change-index changes)) c.loop-change.invariant)
