-- What is read of a file, and the seed file.
use Rattle.std.specs.Prelude.{◌≡◌, ◌≢◌, ◌⊎◌, ◌++◌, ℕ, List, length, Some, IfSome}
use Rattle.std.specs.declared.option.Option.{Option}
use Rattle.scitt_io.specs.Causes.{Rose}
use Rattle.scittd.specs.declared.files.Seed.{Seed}

-- the file of each name, where files are told
abbrev pub Told : Type 0
Told = Option (List ℕ → Option (List ℕ))

-- the file of this name has bytes of which this holds, where files are told
abbrev pub OfFile : Told → List ℕ → (List ℕ → Type 0) → Type 0
OfFile told name P = IfSome told (λ file_of. (bytes : List ℕ) × (file_of name ≡ Some bytes) × P bytes)

-- a refused file: the count of faults rose, or its bytes are so
abbrev pub IsRefused : Told → List ℕ → ℕ → ℕ → (List ℕ → Type 0) → Type 0
IsRefused told name before now P = Rose before now ⊎ OfFile told name P

-- a seed file: the seed's 32 bytes, and the identifier's 16
abbrev pub SeedOf : List ℕ → Seed → Type 0
SeedOf bytes s = bytes ≡ s.seed ++ s.id

abbrev pub IsNoSeed : List ℕ → Type 0
IsNoSeed bytes = length bytes ≢ 48
