-- What a reader keeps.
use Rattle.std.specs.Prelude.{◌≡◌, ℕ, ◌<◌, Option, None, Some}
use Rattle.log_replay.specs.Records.{Log}
use Rattle.auditor.specs.declared.answers.Ended.{Ended}
use Rattle.auditor.specs.Fetches.{AreBefore}

-- until it ended, the place of the next gate, behind the records that it gave, and that gate, but for the first; then nothing
pub record KeepsPlace (limit place : ℕ) (gate : Option ℕ) (ended : Option Ended) (R : Log) : Type 0 where
  pub before : ended ≡ None → AreBefore R place gate
  pub within : (g : ℕ) → gate ≡ Some g → place < limit
  pub free : (e : Ended) → ended ≡ Some e → gate ≡ None
