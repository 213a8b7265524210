-- What is seen is an image: lemmas that each disk's proof of `seen_is_image` names, which is a member of the trait, so
-- that they can't stand in proofs/.
use Rattle.std.proofs.Common.{◌≡◌, ℕ, ◌+◌, ◌<◌, ◌≤◌, ◌⊎◌, max, List, [], ◌∷◌, ◌++◌, length, take, drop, get_or, inl, inr, refl, ◌∙◌, arith, if◌then◌else◌, length-append, length-take, length-drop}
use Rattle.std.proofs.lemmas.List.{places}
use Rattle.scitt_disk.specs.Images.{Held, IsImage}
use Rattle.scitt_disk.specs.Changes.{fresh, put, after_write, after_refusal}
use Rattle.scitt_disk.specs.declared.changes.Change.{Change}
use Rattle.scitt_disk.specs.declared.changes.Change.TheVariants.{Wrote, Refused, Synced}
use Rattle.scitt_disk.specs.declared.memory.MemDisk.{MemDisk}
use Rattle.scitt_disk.specs.Calls.{after_change, replay}
use Rattle.scitt_disk.specs.Memory.{held_of}

length-put : (old : List ℕ) (at : ℕ) (bytes : List ℕ) → length (put old at bytes) ≤ max (at + length bytes) (length old)
length-put old at bytes =
    omega (arith, length-append (take at old ++ bytes) (drop (at + length bytes) old), length-append (take at old) bytes, length-take at old, length-drop (at + length bytes) old)

length-put_least : (old : List ℕ) (at : ℕ) (bytes : List ℕ) → length old ≤ length (put old at bytes)
length-put_least old at bytes =
    omega (arith, length-append (take at old ++ bytes) (drop (at + length bytes) old), length-append (take at old) bytes, length-take at old, length-drop (at + length bytes) old)

-- a write leaves the bytes outside of its range
get_or-put : (old : List ℕ) (at : ℕ) (bytes : List ℕ) (i : ℕ) → i < length old → (i < at) ⊎ (at + length bytes ≤ i) → get_or (put old at bytes) i 0 ≡ get_or old i 0
get_or-put old at bytes i within (inl below) =
    grind (arith, places, length-take at old, length-append (take at old) bytes)
get_or-put old at bytes i within (inr above) =
    grind (arith, places, length-take at old, length-append (take at old) bytes)

-- it is one at first, and stays one through each change
pub IsImage-fresh : (bytes : List ℕ) → IsImage (fresh bytes).epoch (fresh bytes).seen
IsImage-fresh bytes = record { least = omega arith; most = omega arith; same = λ i within outside. refl }

pub IsImage-after_write : (at : ℕ) (bytes : List ℕ) (held : Held) → IsImage held.epoch held.seen → IsImage (after_write at bytes held).epoch (after_write at bytes held).seen
IsImage-after_write at bytes held was =
    record {
      least = omega (arith, was.least, length-put_least held.seen at bytes);
      most = omega (arith, was.most, length-put held.seen at bytes);
      same = λ i within outside.
          get_or-put held.seen at bytes i (omega (arith, was.least)) outside.0 ∙ was.same i within outside.1;
    }

IsImage-after_refusal : (at n : ℕ) (held : Held) → IsImage held.epoch held.seen → IsImage (after_refusal at n held).epoch (after_refusal at n held).seen
IsImage-after_refusal at n held was =
    record {
      least = was.least;
      most = omega (arith, was.most);
      same = λ i within outside. was.same i within outside.1;
    }

IsImage-after_change : (held : Held) (change : Change) → IsImage held.epoch held.seen → IsImage (after_change held change).epoch (after_change held change).seen
IsImage-after_change held (Wrote at bytes) was = IsImage-after_write at bytes.items held was
IsImage-after_change held (Refused at n) was = IsImage-after_refusal at n held was
IsImage-after_change held Synced was = IsImage-fresh held.seen

IsImage-replay : (held : Held) (changes : List Change) → IsImage held.epoch held.seen → IsImage (replay held changes).epoch (replay held changes).seen
IsImage-replay held [] was = was
IsImage-replay held (change ∷ changes) was =
    IsImage-replay (after_change held change) changes (IsImage-after_change held change was)

pub IsImage-from_fresh : (bytes : List ℕ) (changes : List Change) → IsImage (replay (fresh bytes) changes).epoch (replay (fresh bytes) changes).seen
IsImage-from_fresh bytes changes = IsImage-replay (fresh bytes) changes (IsImage-fresh bytes)

-- of a disk in memory
pub IsImage-held_of : (disk : MemDisk) → IsImage (held_of disk).epoch (held_of disk).seen
IsImage-held_of disk =
    IsImage-from_fresh (if disk.kept then disk.first.items else disk.bytes.items) disk.changes.items
