-- Which image a pick gives, of all that a crash may leave.
use Rattle.std.specs.Prelude.{◌≡◌, ℕ, ◌+◌, ◌-◌, ◌/◌, ◌%◌, ◌^◌, ◌<◌, min, max, Bool, ◌&&◌, ◌||◌, ◌==◌, nat_lt, if◌then◌else◌, List, length, slice_index}
use Rattle.scitt_disk.specs.Images.{Held, greatest}

-- the length that a pick gives, of a file that had `old` bytes at the sync and has `new` now, and reached `most`: the least for
-- picks 0 and 2, that of now for 1, the greatest for 3 to 7, and one less for each four picks more, down to the least
abbrev pub picked_len : ℕ → ℕ → ℕ → ℕ → ℕ
picked_len pick old new most =
    if pick == 1 then new else (if nat_lt pick 3 then old else max old (most - (pick / 4 - 1)))

-- whether a pick takes the new byte of a place, where there is one: 1 and 2 always, 0 and 3 never, and the others in runs of 1 to
-- 4 places by turns
abbrev pub takes_new : ℕ → ℕ → Bool
takes_new pick i =
    if nat_lt pick 4 then (pick == 1 || pick == 2) else ((pick / 4 % 2 + i / (pick % 4 + 1) % 2) % 2 == 0)

-- the byte of a place: the new one, the old one, or where the pick finds neither one of its own, from 1 to 3
abbrev pub picked_byte : ℕ → List ℕ → List ℕ → ℕ → ℕ
picked_byte pick old new i =
    if (nat_lt i (length new) && takes_new pick i) then slice_index new i else (if nat_lt i (length old) then slice_index old i else pick % 3 + 1)

-- a list of bytes made so of an old file and a new one
pub record IsMixed (pick most : ℕ) (old new image : List ℕ) : Type 0 where
  pub len : length image ≡ picked_len pick (length old) (length new) most
  pub bytes : (i : ℕ) → i < length image → slice_index image i ≡ picked_byte pick old new i

-- the image that a pick gives of what is held
abbrev pub IsPicked : ℕ → Held → List ℕ → Type 0
IsPicked pick held image =
    IsMixed pick (min (greatest (length held.epoch.synced) held.epoch.written) (2 ^ 64 - 1)) held.epoch.synced held.seen image
