use Rattle.std.proofs.Common.{◌≡◌, ◌+◌, List, ℕ, take, sym, ◌∙◌, arith}
use Rattle.scitt_disk.specs.Changes.{fresh}
use Rattle.scitt_disk.specs.Calls.{after_change, replay}
use Rattle.scitt_disk.proofs.CrashLemmas.{replay-take_more, synced-after_sync, synced-after_other}
use Rattle.scitt_disk.proofs.crash.last_sync.Goals as goal
use Rattle.scitt_disk.proofs.crash.last_sync.Goals.{then-is_sync, else-is_sync}

pub loop-i-preserved : goal.loop-i-preserved
loop-i-preserved c =
    let changes = c.args.changes.now in
    let step : (first : List ℕ) → replay (fresh first) (take (c.loop-i.i + 1) changes) ≡ after_change (replay (fresh first) (take c.loop-i.i changes)) c.index-changes-i.result = λ first. replay-take_more (fresh first) changes c.loop-i.i c.index-changes-i.result (omega arith) c.index-changes-i.is in
    elim c.if-is_sync.branch [
      | then-is_sync w ↦ record {
        within = omega arith;
        synced = λ first. rw (w.last-is, step first) (synced-after_sync _ _ (sym c.is_sync.ensures ∙ w.if-is_sync.true));
      }
      | else-is_sync w ↦ record {
        within = omega arith;
        synced = λ first.
            rw (w.last-is, step first) (synced-after_other _ _ (sym c.is_sync.ensures ∙ w.if-is_sync.false) ∙ c.loop-i.invariant.synced first);
      }
    ]
