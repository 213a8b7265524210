use Rattle.std.specs.Prelude.{◌≡◌, ℕ, ◌≤◌, ◌⊎◌, List, length}
use Rattle.scitt_disk.specs.Images.{Held, moment, ImageNow, ImageSince, Continues}
use Rattle.scitt_disk.specs.Changes.{after_write, after_refusal, after_sync, AfterFailedWrite}

-- after a sync a crash leaves what a read gives and nothing else
abbrev pub SyncLeavesOneImage : Type 0
SyncLeavesOneImage = (held : Held) (image : List ℕ) → ImageNow (after_sync held) image → image ≡ held.seen

-- a failed write takes no image away
abbrev pub FailureKeepsImages : Type 0
FailureKeepsImages =
    (at n : ℕ) (held : Held) (image : List ℕ) → ImageNow held image → ImageNow (after_refusal at n held) image

-- what a write leaves, one that failed may leave too
abbrev pub FailureMayWrite : Type 0
FailureMayWrite = (at : ℕ) (bytes : List ℕ) (held : Held) → AfterFailedWrite at (length bytes) held (after_write at bytes held)

-- where no sync came between, what a crash since the first state might have left it may leave now
abbrev pub EpochHasAll : Type 0
EpochHasAll =
    (old new : Held) (image : List ℕ) → new.earlier ≡ old.earlier → ImageSince new (moment old) image → ImageNow new image

-- a state comes after itself, the state after a write comes after the one before it, and so it does where the write
-- failed
abbrev pub StateGoesOn : Type 0
StateGoesOn = (held : Held) → Continues held held

abbrev pub WriteGoesOn : Type 0
WriteGoesOn = (at : ℕ) (bytes : List ℕ) (held : Held) → Continues held (after_write at bytes held)

abbrev pub FailedWriteGoesOn : Type 0
FailedWriteGoesOn = (at n : ℕ) (old new : Held) → AfterFailedWrite at n old new → Continues old new

-- what a crash since the state before a sync might have left is an image of that state, or what a read gives
abbrev pub SyncGoesOn : Type 0
SyncGoesOn =
    (held : Held) → Continues held (after_sync held) × ((image : List ℕ) → ImageSince (after_sync held) (moment held) image → ImageNow held image ⊎ (image ≡ held.seen))

-- one stretch of time after another is one stretch, and an image of the whole is one of the first or of the second
abbrev pub StretchesJoin : Type 0
StretchesJoin =
    (first middle last : Held) → Continues first middle → Continues middle last → Continues first last × ((image : List ℕ) → ImageSince last (moment first) image → ImageSince middle (moment first) image ⊎ ImageSince last (moment middle) image)

-- for a run that began before a stretch: what a crash since then might have left it might have left before the stretch,
-- or since the stretch began
abbrev pub EarlierRunsJoin : Type 0
EarlierRunsJoin =
    (old new : Held) (since : ℕ) (image : List ℕ) → Continues old new → since ≤ moment old → ImageSince new since image → ImageSince old since image ⊎ ImageSince new (moment old) image

-- moments don't fall
abbrev pub MomentsRise : Type 0
MomentsRise = (old new : Held) → Continues old new → moment old ≤ moment new

-- what a crash at a state between two others might have left it might have left since the first
abbrev pub InsideIsSince : Type 0
InsideIsSince =
    (first middle last : Held) (image : List ℕ) → Continues first middle → Continues middle last → ImageNow middle image → ImageSince last (moment first) image
