use Rattle.std.proofs.Common.{◌≡◌, ℕ, List, length, Result, Ok, Err, OnOk, OnErr, refl, inl, inr}
use Rattle.scitt_disk.specs.Images.{Held, CrashLeaves}
use Rattle.scitt_disk.specs.Leaves.{leaves_then}
use Rattle.scitt_disk.specs.Changes.{after_write, after_sync, AfterFailedWrite}
use Rattle.scitt_disk.specs.Laws.{FailureKeepsImages, FailureMayWrite, EpochHasAll, WriteGoesOn, FailedWriteGoesOn, SyncGoesOn, StretchesJoin}
use Rattle.scitt_journal.specs.State.{MayLeave}

-- a write, a sync, and the one after the other
write_leaves : EpochHasAll → WriteGoesOn → (at : ℕ) (bytes : List ℕ) (old : Held) → CrashLeaves (MayLeave at bytes old) old (after_write at bytes old)
write_leaves epoch write at bytes old =
    record {
      continues = write at bytes old;
      images = λ image since. inl (epoch old (after_write at bytes old) image refl since);
    }

synced_leaves : SyncGoesOn → (at : ℕ) (bytes : List ℕ) (old : Held) → CrashLeaves (MayLeave at bytes old) (after_write at bytes old) (after_sync (after_write at bytes old))
synced_leaves sync at bytes old =
    let has = sync (after_write at bytes old) in
    record { continues = has.0; images = has.1 }

pub done_leaves : {T E : Type 0} (Tells : Type 0) → EpochHasAll → WriteGoesOn → SyncGoesOn → StretchesJoin → (at : ℕ) (bytes : List ℕ) (old middle new : Held) (answer : Result T E) → Tells → middle ≡ after_write at bytes old → OnOk answer (Tells → new ≡ after_sync middle) → OnErr answer (Tells → new ≡ middle) → CrashLeaves (MayLeave at bytes old) old new
done_leaves Tells epoch write sync joined at bytes old middle new (Ok value) tells written synced failed =
    rw (synced tells, written) (leaves_then joined (MayLeave at bytes old) old (after_write at bytes old) (after_sync (after_write at bytes old)) (write_leaves epoch write at bytes old) (synced_leaves sync at bytes old))
done_leaves Tells epoch write sync joined at bytes old middle new (Err fault) tells written synced failed =
    rw (failed tells, written) (write_leaves epoch write at bytes old)

-- a write that failed
pub failed_leaves : EpochHasAll → FailedWriteGoesOn → FailureKeepsImages → (at : ℕ) (bytes : List ℕ) (old new : Held) → AfterFailedWrite at (length bytes) old new → CrashLeaves (MayLeave at bytes old) old new
failed_leaves epoch goes_on keeps at bytes old new failed =
    record {
      continues = goes_on at (length bytes) old new failed;
      images = λ image since.
          elim failed.epoch [
            | inl same ↦ inl (keeps at (length bytes) old image (rw same at (epoch old new image failed.earlier since)))
            | inr more ↦ inl (rw more at (epoch old new image failed.earlier since))
          ];
    }

-- a write whose sync failed is one that failed
pub unsynced_as_failed : {T E : Type 0} (Tells : Type 0) → FailureMayWrite → (at : ℕ) (bytes : List ℕ) (old middle new : Held) (answer : Result T E) → (Tells → middle ≡ after_write at bytes old) → OnErr answer (Tells → new ≡ middle) → OnErr answer (Tells → AfterFailedWrite at (length bytes) old new)
unsynced_as_failed Tells wrote at bytes old middle new (Ok value) written failed = tt
unsynced_as_failed Tells wrote at bytes old middle new (Err fault) written failed = λ tells.
    rw (failed tells, written tells) (wrote at bytes old)
