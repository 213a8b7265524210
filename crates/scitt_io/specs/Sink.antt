-- What writing a list of bytes leaves in a sink.
use Rattle.std.specs.Prelude.{◌≡◌, ℕ, ◌≤◌, ◌↔◌, List, length, take, Result, IsOk}
use Rattle.std.specs.Io.KnownBytes.{Appends}
use Rattle.std.specs.declared.option.Option.{Option}

-- What was written before and after, and the answer: so many of the first bytes were taken, and all of them exactly at Ok.
pub record WritesFront {E : Type 0} (bytes : List ℕ) (old new : Option (List ℕ)) (result : Result Unit E) : Type 0 where
  pub count : ℕ
  pub within : count ≤ length bytes
  pub taken : Appends old new (take count bytes)
  pub all : IsOk result ↔ (count ≡ length bytes)
