-- Stretches of time and what a crash within them leaves, for any property of images. No clause can speak of every property, so
-- these stand here, where the proofs of the crates above cite them; each takes the laws that it uses as they are ensured.
use Rattle.std.specs.Prelude.{◌≡◌, ℕ, List}
use Rattle.std.proofs.Common.{inl, inr, refl, sym, subst}
use Rattle.scitt_disk.specs.Images.{Held, ImageNow, Continues, CrashLeaves}
use Rattle.scitt_disk.specs.Changes.{after_sync}
use Rattle.scitt_disk.specs.Laws.{EpochHasAll, StateGoesOn, SyncGoesOn, StretchesJoin, InsideIsSince}

-- a weaker property of each image
pub leaves_weaker : (P Q : List ℕ → Type 0) (old new : Held) → ((image : List ℕ) → P image → Q image) → CrashLeaves P old new → CrashLeaves Q old new
leaves_weaker P Q old new weaker was =
    record {
      continues = was.continues;
      images = λ image since. weaker image (was.images image since);
    }

-- one stretch of time after another
pub leaves_then : StretchesJoin → (P : List ℕ → Type 0) (first middle last : Held) → CrashLeaves P first middle → CrashLeaves P middle last → CrashLeaves P first last
leaves_then joined P first middle last one two =
    let whole = joined first middle last one.continues two.continues in
    record {
      continues = whole.0;
      images = λ image since.
          elim (whole.1 image since) [ inl early ↦ one.images image early | inr late ↦ two.images image late ];
    }

-- nothing has happened
pub leaves_still : StateGoesOn → EpochHasAll → (P : List ℕ → Type 0) (old new : Held) → new ≡ old → ((image : List ℕ) → ImageNow old image → P image) → CrashLeaves P old new
leaves_still goes epoch P old new same now =
    subst (CrashLeaves P old) (sym same) (record {
      continues = goes old;
      images = λ image since. now image (epoch old old image refl since);
    })

-- a sync
pub leaves_synced : SyncGoesOn → (P : List ℕ → Type 0) (old new : Held) → new ≡ after_sync old → ((image : List ℕ) → ImageNow old image → P image) → P old.seen → CrashLeaves P old new
leaves_synced sync P old new synced now seen =
    let has = sync old in
    subst (CrashLeaves P old) (sym synced) (record {
      continues = has.0;
      images = λ image since.
          elim (has.1 image since) [ inl before ↦ now image before | inr e ↦ subst P (sym e) seen ];
    })

-- a crash at a state inside the stretch
pub leaves_inside : InsideIsSince → (P : List ℕ → Type 0) (first middle last : Held) (image : List ℕ) → CrashLeaves P first last → Continues first middle → Continues middle last → ImageNow middle image → P image
leaves_inside inside P first middle last image leaves one two now =
    leaves.images image (inside first middle last image one two now)
