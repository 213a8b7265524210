-- What a run asks of a folder.
use Rattle.std.specs.Prelude.{◌≡◌, ◌≤◌, ℕ, ◌++◌, List, length, take}

-- what was asked for before and after: so many of the first of these names more
pub record AsksFront (names old new : List (List ℕ)) : Type 0 where
  pub count : ℕ
  pub within : count ≤ length names
  pub asked : new ≡ old ++ take count names
