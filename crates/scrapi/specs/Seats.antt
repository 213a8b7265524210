-- What a seat tells of the turns that are made by it.
use Rattle.std.specs.Prelude.{◌≡◌, ℕ, List, [], ◌∷◌}
use mathlib.Core.List.{IsPrefix}
use Rattle.turn_lock.specs.Calls.{Caller}
use Rattle.scitt_answers.specs.Marks.{Mark}

-- the next turn finds a log that begins with what the seat has seen
abbrev pub begins_at : Caller → Mark → Type 0
begins_at seat m = IsPrefix seat.seen m.standing.log

-- the next signing index and the disk's count of faults
abbrev pub marks_at : Mark → List ℕ
marks_at m = m.standing.next ∷ m.faults ∷ []

-- the seat's last turn went from one of these marks to the other
pub record LastTurn (seat : Caller) (found left : Mark) : Type 0 where
  pub log_found : found.standing.log ≡ seat.found
  pub log_left : left.standing.log ≡ seat.seen
  pub marks_found : marks_at found ≡ seat.marks_found
  pub marks_left : marks_at left ≡ seat.marks_left

-- between two turns of a seat others may make theirs: the log only grows
abbrev pub Follows : Mark → Mark → Type 0
Follows left next = IsPrefix left.standing.log next.standing.log

-- the two are one seat at one service
pub record IsSameSeat (before after : Caller) : Type 0 where
  pub lock : after.lock ≡ before.lock
  pub weight : after.weight ≡ before.weight
