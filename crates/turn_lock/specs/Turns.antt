-- The rule that every step of the lock keeps, and what each step tells.
-- Word 0 is 0 where the turn is free and 1 where a seat has it. Slot 0 has the value.
use Rattle.std.specs.Prelude.{◌≡◌, ◌≢◌, ◌⊎◌, ℕ, ◌+◌, ◌<◌, ◌≤◌, true, false, List, [], ◌∷◌, Option, Some}
use mathlib.Core.Option as opt
use mathlib.Core.List.{IsPrefix}
use lib.ListN.{get_elem?}
use Rattle.atomic_table.specs.Table.{State, Me, Step}
use Rattle.turn_lock.specs.declared.view.View.{View}
use Rattle.turn_lock.specs.Told.{Told, Begin}
use Rattle.turn_lock.specs.Views.{spent, turning, turned, looked}

-- the weights of the views in all
abbrev pub total : List View → ℕ
total [] = 0
total (v ∷ vs) = v.weight + total vs

-- a view fits a list: what it has seen begins it, what it notes begins what it has seen, and it is spent or weighs something
pub record Fits (xs : Told) (v : View) : Type 0 where
  pub seen : IsPrefix v.seen xs
  pub notes : Begin v.notes v.seen
  pub alive : (v ≡ spent) ⊎ (0 < v.weight)

module _ {T : Type 0} (list : T → Told) where
  -- the turn is free: the value is at home, every view fits its list, and none has the turn
  pub record IsFree (s : State (Option T) View) : Type 0 where
    pub value : T
    pub words : s.words ≡ 0 ∷ []
    pub home : s.homes ≡ opt.some (Some value) ∷ []
    pub fits : (id : ℕ) (v : View) → get_elem? s.views id ≡ opt.some v → Fits (list value) v
    pub nobody : (id : ℕ) (v : View) → get_elem? s.views id ≡ opt.some v → v.turn ≡ false

  -- one seat has the turn, and the value is out with it: every view fits the list that it found
  pub record IsTaken (s : State (Option T) View) : Type 0 where
    pub holder : ℕ
    pub view : View
    pub words : s.words ≡ 1 ∷ []
    pub home : s.homes ≡ opt.none ∷ []
    pub there : get_elem? s.views holder ≡ opt.some view
    pub turn : view.turn ≡ true
    pub fits : (id : ℕ) (v : View) → get_elem? s.views id ≡ opt.some v → Fits view.found v
    pub alone : (id : ℕ) (v : View) → get_elem? s.views id ≡ opt.some v → v.turn ≡ true → id ≡ holder

  -- the rule
  pub record TakesTurns (s : State (Option T) View) : Type 0 where
    pub weights : total s.views ≡ 1024
    pub either : IsFree s ⊎ IsTaken s

  -- the turn is won: the seat has the value out, whose list what it has seen begins
  pub record Won (v : View) (me : Me (Option T) View) : Type 0 where
    pub value : T
    pub grown : IsPrefix v.seen (list value)
    pub view : me.0 ≡ turning v (list value)
    pub slot : me.1 ≡ (0, Some value) ∷ []

  -- the compare and exchange of 0 with 1: the turn is won where 0 was found, and else nothing changes
  abbrev pub claimed : Step (Option T) → Me (Option T) View → ℕ → Me (Option T) View → Type 0
  claimed st m n m' = (n ≡ 0 → Won m.0 m') × (n ≢ 0 → m' ≡ m)

  -- what the seat has out goes home, and its list is seen
  abbrev pub Left : List (ℕ × Option T) → View → Me (Option T) View → Type 0
  Left [] v m' = Unit {0}
  Left (c ∷ cs) v m' = (y : T) → c.1 ≡ Some y → m' ≡ (turned v (list y), cs)

  -- the store of 0 that gives the turn up
  abbrev pub released : Step (Option T) → Me (Option T) View → ℕ → Me (Option T) View → Type 0
  released st m n m' = Left m.1 m.0 m'

-- the load after a join: each note begins what the seat has seen, it weighs 1,024 at most, and the notes are dropped
abbrev pub seen_longer : {T : Type 0} → Step (Option T) → Me (Option T) View → ℕ → Me (Option T) View → Type 0
seen_longer st m n m' = Begin m.0.notes m.0.seen × (m.0.weight ≤ 1024) × (m' ≡ (looked m.0, m.1))
