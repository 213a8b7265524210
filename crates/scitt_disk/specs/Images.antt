use Rattle.std.specs.Prelude.{◌≡◌, ℕ, ◌+◌, ◌-◌, ◌<◌, ◌≤◌, ◌⊎◌, max, List, [], ◌∷◌, ◌++◌, length, take, slice_index}

-- the time between two syncs that succeed: the bytes at the first of them, and the ranges that were written
-- since then, the newest first, each by its first byte and its length
pub record Epoch : Type 0 where
  pub synced : List ℕ
  pub written : List (ℕ × ℕ)

-- what a disk holds: what a read gives, the epoch that is open, and those that a sync has closed, the newest first
pub record Held : Type 0 where
  pub seen : List ℕ
  pub epoch : Epoch
  pub earlier : List Epoch

-- no range has this place
abbrev pub Untouched : List (ℕ × ℕ) → ℕ → Type 0
Untouched [] i = Unit {0}
Untouched (range ∷ ranges) i = ((i < range.0) ⊎ (range.0 + range.1 ≤ i)) × Untouched ranges i

-- the greatest length that a file of this length may get by these ranges
abbrev pub greatest : ℕ → List (ℕ × ℕ) → ℕ
greatest len [] = len
greatest len (range ∷ ranges) = max (range.0 + range.1) (greatest len ranges)

-- what a crash in this epoch may leave: any bytes in the ranges and past the length at the sync, any length
-- between the least and the greatest since then, and elsewhere the bytes at the sync
pub record IsImage (epoch : Epoch) (image : List ℕ) : Type 0 where
  pub least : length epoch.synced ≤ length image
  pub most : length image ≤ greatest (length epoch.synced) epoch.written
  pub same : (i : ℕ) → i < length epoch.synced → Untouched epoch.written i → slice_index image i ≡ slice_index epoch.synced i

-- one of these epochs has the image
abbrev pub OneHas : List Epoch → List ℕ → Type 0
OneHas [] image = ⊥
OneHas (epoch ∷ epochs) image = IsImage epoch image ⊎ OneHas epochs image

-- a moment is the number of syncs that succeeded before it
abbrev pub moment : Held → ℕ
moment held = length held.earlier

-- a crash now may leave this
abbrev pub ImageNow : Held → List ℕ → Type 0
ImageNow held image = IsImage held.epoch image

-- a crash at some time since that moment might have left this
abbrev pub ImageSince : Held → ℕ → List ℕ → Type 0
ImageSince held since image = ImageNow held image ⊎ OneHas (take (moment held - since) held.earlier) image

-- the second state comes after the first: the epochs that were closed by then are the same, syncs may have closed more,
-- and what a crash at the first might have left it might have left since
pub record Continues (old new : Held) : Type 0 where
  pub closed : List Epoch
  pub earlier : new.earlier ≡ closed ++ old.earlier
  pub kept : (image : List ℕ) → ImageNow old image → ImageSince new (moment old) image

-- from the first state on, up to the second and at both, a crash leaves nothing but what has P
pub record CrashLeaves (P : List ℕ → Type 0) (old new : Held) : Type 0 where
  pub continues : Continues old new
  pub images : (image : List ℕ) → ImageSince new (moment old) image → P image
