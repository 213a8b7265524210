use Rattle.std.specs.Prelude.{◌≡◌, ℕ, ◌+◌, ◌⊎◌, List, [], ◌∷◌, ◌++◌, length, take, drop}
use Rattle.scitt_disk.specs.Images.{Epoch, Held, IsImage}

-- a disk with these bytes, all of them synced
abbrev pub fresh : List ℕ → Held
fresh bytes = record { seen = bytes; epoch = record { synced = bytes; written = [] }; earlier = [] }

-- the file with these bytes from this place on
abbrev pub put : List ℕ → ℕ → List ℕ → List ℕ
put old at bytes = take at old ++ bytes ++ drop (at + length bytes) old

-- the epoch with one more range
abbrev pub with_range : ℕ → ℕ → Epoch → Epoch
with_range at n epoch = record epoch { written = (at, n) ∷ epoch.written }

abbrev pub after_write : ℕ → List ℕ → Held → Held
after_write at bytes held = record held { seen = put held.seen at bytes; epoch = with_range at (length bytes) held.epoch }

-- after a write of so many bytes that failed without a trace in what a read gives
abbrev pub after_refusal : ℕ → ℕ → Held → Held
after_refusal at n held = record held { epoch = with_range at n held.epoch }

abbrev pub after_sync : Held → Held
after_sync held = record held { epoch = record { synced = held.seen; written = [] }; earlier = held.epoch ∷ held.earlier }

-- After a write of n bytes that failed: its range counts as written, or the images are as before, and a read gives
-- what a crash within that write might have left.
pub record AfterFailedWrite (at n : ℕ) (old new : Held) : Type 0 where
  pub epoch : (new.epoch ≡ old.epoch) ⊎ (new.epoch ≡ with_range at n old.epoch)
  pub earlier : new.earlier ≡ old.earlier
  pub seen : IsImage (record { synced = old.seen; written = (at, n) ∷ [] }) new.seen
