-- What is read of chosen files.
use Rattle.std.specs.Prelude.{◌≡◌, ◌<◌, ◌≤◌, ◌⊎◌, ℕ, List, [], ◌∷◌, length, map, Option, Some, None, IfSome}
pub use Rattle.command_line.specs.Reads.{FileOf, TellsFile, ReadOf}
use Rattle.scitt_tool.specs.Answer.{unread, too_long}
use Rattle.scitt_tool.specs.Outcome.{Outcome, plain}

-- the same of each of these names
abbrev pub TellsFiles : Option FileOf → List (List ℕ) → List (Option (List ℕ)) → Type 0
TellsFiles told names contents = IfSome told (λ file_of. map file_of names ≡ contents)

-- each of these is within the limit
abbrev pub AllWithin : ℕ → List (List ℕ) → Type 0
AllWithin limit [] = Unit {0}
AllWithin limit (bytes ∷ more) = (length bytes ≤ limit) × AllWithin limit more

-- An outcome by the contents of files in their order: the first that is missing can't be read, the first that is longer than the limit
-- ends it, and where neither comes it is by the bytes of all.
abbrev pub ByFiles : ℕ → (List (List ℕ) → Outcome → Type 0) → List (Option (List ℕ)) → Outcome → Type 0
ByFiles limit Judged [] outcome = Judged [] outcome
ByFiles limit Judged (None ∷ contents) outcome = outcome ≡ plain unread
ByFiles limit Judged (Some bytes ∷ contents) outcome =
    ((length bytes ≤ limit) × ByFiles limit (λ read. Judged (bytes ∷ read)) contents outcome) ⊎ ((limit < length bytes) × (outcome ≡ plain (too_long limit)))

-- the files were read, each within the limit
abbrev pub ReadAll : ℕ → List (Option (List ℕ)) → List (List ℕ) → Type 0
ReadAll limit contents read = (contents ≡ map Some read) × AllWithin limit read

-- these files have these bytes, each within the limit: the files are told, or there are none of them
abbrev pub Finds : ℕ → Option FileOf → List (List ℕ) → List (List ℕ) → Type 0
Finds limit told [] read = read ≡ []
Finds limit None (name ∷ names) read = ⊥
Finds limit (Some file_of) (name ∷ names) read = ReadAll limit (map file_of (name ∷ names)) read

-- the first that isn't within the limit is longer
abbrev pub StopsAt : ℕ → List (Option (List ℕ)) → Type 0
StopsAt limit [] = ⊥
StopsAt limit (None ∷ contents) = ⊥
StopsAt limit (Some bytes ∷ contents) = ((length bytes ≤ limit) × StopsAt limit contents) ⊎ (limit < length bytes)
