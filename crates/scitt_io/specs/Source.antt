-- What reading a source to its end takes from it.
use Rattle.std.specs.Prelude.{◌≡◌, ℕ, ◌+◌, ◌≤◌, ◌↔◌, List, length, Result, IfOk, IsErrOf}
use Rattle.std.specs.Io.KnownBytes.{Consumes}
use Rattle.std.specs.declared.option.Option.{Option}
use Rattle.std.specs.Global.{Vec}
use Rattle.scitt_io.specs.declared.source.ReadStop.{ReadStop}
use Rattle.scitt_io.specs.declared.source.ReadStop.TheVariants.{TooLong}

-- What was left before and after, and the answer: the bytes taken are the answer's, they are one more than the limit
-- exactly where the input is too long, and an answer is given at the end of the input alone.
pub record TakesAll (limit : ℕ) (old new : Option (List ℕ)) (result : Result (Vec ℕ) ReadStop) : Type 0 where
  pub bytes : List ℕ
  pub taken : Consumes old new bytes
  pub within : length bytes ≤ limit + 1
  pub too_long : IsErrOf result TooLong ↔ (length bytes ≡ limit + 1)
  pub all : IfOk result (λ v. v.items ≡ bytes)
