-- What an audit takes from a source.
use Rattle.std.specs.Prelude.{◌≡◌, ◌+◌, ◌≤◌, ◌↔◌, ℕ, List, Result, length, IfOk, IsErrOf}
use Rattle.std.specs.declared.option.Option.{Option}
use Rattle.std.specs.Io.KnownBytes.{Consumes}
use Rattle.auditor.specs.declared.words.AuditStop.{AuditStop}
use Rattle.auditor.specs.declared.words.AuditStop.TheVariants as audit

-- What was left before and after, and the answer: an answer is about exactly the bytes taken, which are one more than the limit
-- exactly where the input is too long.
pub record Audits {T : Type 0} (limit : ℕ) (Says : List ℕ → T → Type 0) (old new : Option (List ℕ)) (result : Result T AuditStop) : Type 0 where
  pub bytes : List ℕ
  pub taken : Consumes old new bytes
  pub within : length bytes ≤ limit + 1
  pub too_long : IsErrOf result audit.TooLong ↔ (length bytes ≡ limit + 1)
  pub says : IfOk result (Says bytes)
