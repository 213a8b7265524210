use Rattle.std.proofs.Common.{take, arith}
use Rattle.std.proofs.lemmas.List.{take_all}
use Rattle.scitt_disk.specs.Changes.{fresh}
use Rattle.scitt_disk.specs.Calls.{replay, ends_epoch}
use Rattle.scitt_disk.proofs.CrashLemmas.{replay-take_more, greatest-after_change, end_is}
use Rattle.scitt_disk.proofs.crash.written_end.Goals as goal

pub loop-change-preserved : goal.loop-change-preserved
loop-change-preserved c = λ first.
    let changes = c.args.changes.now in
    let change = c.change-item.result in
    let step = replay-take_more (fresh first) changes c.loop-change.change-index change (omega arith) c.change-item.is in
    rw (step, greatest-after_change (replay (fresh first) (take c.loop-change.change-index changes)) change) (end_is (ends_epoch change) _ _ _ _ c.end_after-end.ensures (c.loop-change.invariant first))

pub returns : goal.returns
returns c = λ first.
    let whole = take_all c.loop-change.change-index c.args.changes.now c.loop-change-test.false in
    rw whole at (c.loop-change.invariant first)
