-- What taking a record does.
use Rattle.std.specs.Prelude.{◌≡◌, ℕ, List, [], ◌∷◌, ◌++◌, Option, Some, None, Result, Ok, Err, length}
use Rattle.statement.specs.Said.{Said}
use Rattle.log_replay.specs.declared.words.Failing.{Failing}
use Rattle.log_replay.specs.declared.words.StepStop.{StepStop}
use Rattle.log_replay.specs.declared.words.StepStop.TheVariants.{BadRecord, OutOfMemory}
use Rattle.cbor_core.specs.Exact.{strict_text}
use Rattle.log_replay.specs.Records.{Log, Record, batch_record, record_of, entry_item}
use Rattle.log_replay.specs.WellMade.{WellMade, failing_of}
use Rattle.log_replay.specs.Kept.{Kept, StateOf}
use Rattle.log_replay.specs.KeptRows.{failing_kept, with_record}

-- a record is taken where no rule fails, and else the first failing rule is told, and what is kept is as before
abbrev pub Takes : Kept → Option Record → Option Failing → Kept → Type 0
Takes K r None new = (failing_kept K r ≡ None) × (new ≡ with_record K r)
Takes K r (Some f) new = (failing_kept K r ≡ Some f) × (new ≡ K)

-- the same of a log that the state stands for
abbrev pub TakesOf : Log → List ℕ → Option Failing → Kept → Type 0
TakesOf R body None new = (failing_of R body ≡ None) × StateOf new (R ++ body ∷ [])
TakesOf R body (Some f) new = (failing_of R body ≡ Some f) × StateOf new R

-- the answer of a step
abbrev pub Steps : Log → List ℕ → Result (Unit {0}) StepStop → Kept → Type 0
Steps R body (Ok done) new = (failing_of R body ≡ None) × StateOf new (R ++ body ∷ [])
Steps R body (Err (BadRecord number why)) new =
    (number ≡ length R) × ((recorded : ℕ) × (found : ℕ) × (failing_of R body ≡ Some (record { why = why; recorded = recorded; found = found }))) × StateOf new R
Steps R body (Err OutOfMemory) new = StateOf new R

-- the log with a body that reads as this record is well made
abbrev pub Fits : Log → Record → Type 0
Fits R r = (body : List ℕ) × (record_of body ≡ Some r) × WellMade (R ++ body ∷ [])

-- the entry's bytes: the strict `[1, at, rule, logged form]`
abbrev pub entry_text : ℕ → ℕ → Said → List ℕ
entry_text at rule s = strict_text (entry_item at rule s.logged)

-- the Batch of one entry
abbrev pub batch_with : ℕ → ℕ → Said → ℕ → List ℕ → Record
batch_with at rule s index signature = batch_record (record { entries = entry_text at rule s ∷ []; index = index; signature = signature })
