-- The records that a registrar was handed or has read, as clauses see them.
use Rattle.std.specs.Prelude.{ℕ, List, [], ◌∷◌, ◌++◌}
use Rattle.registrar.specs.declared.records.Records.{Records, Nothing, Then'}

-- the bodies, the first one first
abbrev pub log_of : Records → List (List ℕ)
log_of Nothing = []
log_of (Then' _ before body) = log_of before ++ body.value.items ∷ []
