-- A table of tests that are tried in order.
use Rattle.std.specs.Prelude.{Bool, List, [], ◌∷◌, Option, Some, None, if◌then◌else◌}

-- what stands beside the first test that holds
abbrev pub first_row : {A : Type 0} → List (Bool × A) → Option A
first_row [] = None
first_row (row ∷ rows) = if row.0 then Some row.1 else first_row rows
