-- What a caller's seat keeps.
use Rattle.std.specs.Prelude.{◌≡◌, ℕ, ◌<◌, ◌≤◌, ◌^◌, List, [], ◌∷◌, length}
use Rattle.turn_lock.specs.declared.view.View.{View}
use Rattle.turn_lock.specs.Told.{Told}
use Rattle.turn_lock.specs.Views.{resting}

-- the list that the view has seen
abbrev pub seen_of : List View → Told
seen_of [] = []
seen_of (v ∷ vs) = v.seen

-- the seat has one view, at rest, of this weight, and what it has seen has a length of 64 bits
pub record IsAtRest (views : List View) (weight : ℕ) : Type 0 where
  pub view : views ≡ resting weight (seen_of views) ∷ []
  pub least : 0 < weight
  pub most : weight ≤ 1024
  pub short : length (seen_of views) < 2 ^ 64
