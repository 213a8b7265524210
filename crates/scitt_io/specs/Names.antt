-- Names that were asked for, as clauses see them.
use Rattle.std.specs.Prelude.{ℕ, List, [], ◌∷◌, ◌++◌}
use Rattle.scitt_io.specs.declared.names.Spelled.{Spelled, Empty, Longer'}
use Rattle.scitt_io.specs.declared.names.Asked.{Asked, Nothing, Then'}

-- the bytes of a name, the first one first
abbrev pub name_of : Spelled → List ℕ
name_of Empty = []
name_of (Longer' _ before byte) = name_of before ++ byte ∷ []

-- the names, the first one first
abbrev pub names_of : Asked → List (List ℕ)
names_of Nothing = []
names_of (Then' _ before name) = names_of before ++ name_of name.value ∷ []
