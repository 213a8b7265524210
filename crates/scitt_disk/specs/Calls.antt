use Rattle.std.specs.Prelude.{ℕ, ◌+◌, Bool, true, false, if◌then◌else◌, List, [], ◌∷◌, length}
use Rattle.scitt_disk.specs.Images.{Held}
use Rattle.scitt_disk.specs.Changes.{fresh, after_write, after_refusal, after_sync}
use Rattle.scitt_disk.specs.declared.changes.Change.{Change}
use Rattle.scitt_disk.specs.declared.changes.Change.TheVariants.{Wrote, Refused, Synced}

abbrev pub after_change : Held → Change → Held
after_change held (Wrote at bytes) = after_write at bytes.items held
after_change held (Refused at n) = after_refusal at n held
after_change held Synced = after_sync held

-- whether a change is a sync
abbrev pub ends_epoch : Change → Bool
ends_epoch (Wrote at bytes) = false
ends_epoch (Refused at n) = false
ends_epoch Synced = true

-- the end of the range of a write, and 0 for a sync
abbrev pub end_of : Change → ℕ
end_of (Wrote at bytes) = at + length bytes.items
end_of (Refused at n) = at + n
end_of Synced = 0

-- what is held after these changes, the first of them first
abbrev pub replay : Held → List Change → Held
replay held [] = held
replay held (change ∷ changes) = replay (after_change held change) changes

-- what a memory disk holds: its first bytes are kept apart from its first change on
abbrev pub held_from : Bool → List ℕ → List ℕ → List Change → Held
held_from kept first bytes changes = replay (fresh (if kept then first else bytes)) changes
