-- The records that a reader gave, as clauses see them.
use Rattle.std.specs.Prelude.{ℕ, List, [], ◌∷◌, ◌++◌}
use Rattle.auditor.specs.declared.given.Given.{Given, Nothing, Then'}

-- the bodies, the first one first
abbrev pub given_of : Given → List (List ℕ)
given_of Nothing = []
given_of (Then' _ before body) = given_of before ++ body.value ∷ []
