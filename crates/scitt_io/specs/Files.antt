-- Files by name.
use Rattle.std.specs.Prelude.{◌≡◌, ℕ, List, [], ◌∷◌, Some, None, if◌then◌else◌, unwrap_or}
use Rattle.std.specs.declared.option.Option.{Option}
use Rattle.std.specs.Str.{bytes_eq}

-- there is such a file, and its bytes are what is left to read
pub record ReadsFile (file left : Option (List ℕ)) : Type 0 where
  pub bytes : List ℕ
  pub found : file ≡ Some bytes
  pub opened : left ≡ Some bytes

-- the first file of this name
abbrev pub file_named : List (List ℕ × List ℕ) → List ℕ → Option (List ℕ)
file_named [] name = None
file_named (file ∷ files) name = if bytes_eq file.0 name then Some file.1 else file_named files name

-- the first file of this name, or an empty one
abbrev pub file_or_empty : List (List ℕ × List ℕ) → List ℕ → Option (List ℕ)
file_or_empty files name = Some (unwrap_or (file_named files name) [])
