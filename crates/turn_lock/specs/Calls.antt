-- What a clause sees of a seat, and what the lock's calls do to it.
use Rattle.std.specs.Prelude.{◌≡◌, ◌⊎◌, ℕ, ◌+◌, ◌-◌, List, [], ◌∷◌, take, Option}
use Rattle.std.specs.Borrow.{MutBor}
use Rattle.std.specs.Fn.{Once, FnOnceTakesAtMut, FnOnceReturnsAtMut}
use mathlib.Core.List.{IsPrefix}
use Rattle.atomic_table.specs.Seated.{TableId}
use Rattle.turn_lock.specs.declared.view.View.{View}
use Rattle.turn_lock.specs.Told.{Told, told_list, TellsAlike}
use Rattle.turn_lock.specs.Seats.{seen_of}

-- a seat: its lock, its weight, the list that it has seen, the list that its last turn found, and the marks that this
-- turn found and left
pub record Caller : Type 0 where
  pub lock : TableId
  pub weight : ℕ
  pub seen : Told
  pub found : Told
  pub marks_found : List ℕ
  pub marks_left : List ℕ

-- the list found is the seen one cut after the length found
abbrev pub caller_of : TableId → List View → ℕ → ℕ → List ℕ → List ℕ → Caller
caller_of lock views weight length_found before after = record {
  lock = lock;
  weight = weight;
  seen = seen_of views;
  found = take length_found (seen_of views);
  marks_found = before;
  marks_left = after;
}

-- a seat that was made, split off or joined: it has found what it has seen, and all its marks are 0
abbrev pub fresh : TableId → ℕ → Told → Caller
fresh lock weight seen = record { lock = lock; weight = weight; seen = seen; found = seen; marks_found = 0 ∷ 0 ∷ []; marks_left = 0 ∷ 0 ∷ [] }

-- a seat that another was split off
abbrev pub lighter : Caller → Caller
lighter c = record c { weight = c.weight - 1 }

module _ {T R F : Type 0} (told : T → Option Told) (marks : T → List ℕ) (g : Once F (MutBor T × Unit {0}) (R × (MutBor T × Unit {0}))) where
  -- the work may be done on every value whose list this one begins, it leaves a list that the old one begins, and it tells
  -- its list afterwards where it told it before, and only there
  abbrev pub MayWork : F → Told → Type 0
  MayWork work xs = (x : T) → IsPrefix xs (told_list (told x)) → FnOnceTakesAtMut g work x
      × ((r : R) (y : T) → FnOnceReturnsAtMut g work x r y → IsPrefix (told_list (told x)) (told_list (told y)) × TellsAlike (told x) (told y))

  -- one turn: the work was done on one value, whose list the seen one begins
  pub record Turn (work : F) (before : Caller) (r : R) (after : Caller) : Type 0 where
    pub value : T
    pub left : T
    pub worked : FnOnceReturnsAtMut g work value r left
    pub lock : after.lock ≡ before.lock
    pub weight : after.weight ≡ before.weight
    pub grown : IsPrefix before.seen (told_list (told value))
    pub list_found : after.found ≡ told_list (told value)
    pub list_left : after.seen ≡ told_list (told left)
    pub marks_found : after.marks_found ≡ marks value
    pub marks_left : after.marks_left ≡ marks left

-- two seats are joined: one of the two seen lists begins the other, which is then seen
pub record Joined (before other after : Caller) : Type 0 where
  pub seat : after ≡ fresh before.lock (before.weight + other.weight) after.seen
  pub longer : (IsPrefix before.seen other.seen × (after.seen ≡ other.seen)) ⊎ (IsPrefix other.seen before.seen × (after.seen ≡ before.seen))
