-- What a writer of pieces leaves in a buffer.
use Rattle.std.specs.Prelude.{◌≡◌, ℕ, ◌+◌, List, ◌++◌, length, take}

-- behind the first `at` bytes of a buffer a text was written, up to the place `end`
pub record Writes (text : List ℕ) (at : ℕ) (old new : List ℕ) (end : ℕ) : Type 0 where
  pub place : end ≡ at + length text
  pub bytes : take end new ≡ take at old ++ text
