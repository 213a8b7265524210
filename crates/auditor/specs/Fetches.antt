-- What the steps of a reader take from its source, for the contracts inside the crate.
use Rattle.std.specs.Prelude.{◌≡◌, ℕ, ◌+◌, ◌^◌, ◌<◌, ◌≤◌, ◌↔◌, List, [], ◌∷◌, ◌++◌, Option, None, Some, Result, Ok, Err, length, IfOk, IsErrOf}
use Rattle.std.specs.Io.KnownBytes.{Consumes, IsAtEnd}
use Rattle.std.specs.Global.{Vec}
use Rattle.scitt_io.specs.declared.source.ReadStop.{ReadStop}
use Rattle.scitt_io.specs.declared.source.ReadStop.TheVariants as stop
use Rattle.scitt_journal.specs.Layout.{Cut, AllFit, sized, spelled}
use Rattle.log_replay.specs.Records.{Log}
use Rattle.auditor.specs.declared.answers.Read.{Read}
use Rattle.auditor.specs.declared.answers.Read.TheVariants as read
use Rattle.auditor.specs.declared.answers.Ended.{Ended}
use Rattle.auditor.specs.declared.answers.Ended.TheVariants as ended
use Rattle.auditor.specs.declared.stepping.Whole.{Whole}
use Rattle.auditor.specs.declared.stepping.Behind.{Behind}
use Rattle.auditor.specs.declared.stepping.Behind.TheVariants as behind
use Rattle.auditor.specs.Streams.{Says}

-- Bytes were taken from a source of which so many may be: one more exactly where there are too many, and a result is about them and what is
-- left behind them.
pub record Took {T : Type 0} (room : ℕ) (Is : List ℕ → Option (List ℕ) → T → Type 0) (old new : Option (List ℕ)) (result : Result T ReadStop) : Type 0 where
  pub bytes : List ℕ
  pub taken : Consumes old new bytes
  pub within : length bytes ≤ room + 1
  pub too_long : IsErrOf result stop.TooLong ↔ (length bytes ≡ room + 1)
  pub is : IfOk result (Is bytes new)

-- so many bytes were taken
pub record HaveGone (count : ℕ) (old new : Option (List ℕ)) : Type 0 where
  pub bytes : List ℕ
  pub taken : Consumes old new bytes
  pub counted : length bytes ≡ count

-- the bytes themselves, as many as were wanted, or fewer at the end
pub record IsFront (want : ℕ) (bytes : List ℕ) (left : Option (List ℕ)) (v : Vec ℕ) : Type 0 where
  pub items : v.items ≡ bytes
  pub most : length bytes ≤ want
  pub end : length bytes < want → IsAtEnd left

-- their number, where none is left
pub record IsRest (bytes : List ℕ) (left : Option (List ℕ)) (count : ℕ) : Type 0 where
  pub counted : count ≡ length bytes
  pub end : IsAtEnd left

-- behind an open gate: a record and the next gate, or too few bytes for them
abbrev pub IsBehind : List ℕ → Option (List ℕ) → Behind → Type 0
IsBehind bytes left (behind.Whole w) = (bytes ≡ sized w.body ++ w.gate ∷ []) × (length w.body < 2 ^ 32)
IsBehind bytes left (behind.Cut tail) = Cut bytes × (tail ≡ length bytes) × IsAtEnd left

abbrev pub read_of : Ended → Read
read_of (ended.End rest) = read.End rest
read_of ended.NoLog = read.NoLog
read_of (ended.Short at) = read.Short at
read_of ended.ReadFault = read.ReadFault
read_of ended.TooLong = read.TooLong
read_of ended.OutOfMemory = read.OutOfMemory

abbrev pub ended_of : ReadStop → Ended
ended_of stop.TooLong = ended.TooLong
ended_of stop.ReadFault = ended.ReadFault
ended_of stop.OutOfMemory = ended.OutOfMemory

abbrev pub SaysOf : Log → List ℕ → Option (List ℕ) → Result Whole Ended → Type 0
SaysOf R bytes left (Ok w) = Says R bytes left (read.Record w.body) (w.gate ∷ [])
SaysOf R bytes left (Err e) = Says R bytes left (read_of e) []

-- bytes were taken behind these, and the result is about all of them
pub record Reads (limit : ℕ) (R : Log) (front : List ℕ) (old new : Option (List ℕ)) (result : Result Whole Ended) : Type 0 where
  pub bytes : List ℕ
  pub taken : Consumes old new bytes
  pub within : length (front ++ bytes) ≤ limit + 1
  pub too_long : IsErrOf result ended.TooLong ↔ (length (front ++ bytes) ≡ limit + 1)
  pub says : SaysOf R (front ++ bytes) new result

-- the gate that is kept
abbrev pub gate_bytes : Option ℕ → List ℕ
gate_bytes None = []
gate_bytes (Some gate) = gate ∷ []

-- records that may stand before this place, with this gate behind them; before the first gate there are none
pub record AreBefore (R : Log) (place : ℕ) (gate : Option ℕ) : Type 0 where
  pub fit : AllFit R
  pub long : length (spelled R) ≡ place
  pub none : gate ≡ None → R ≡ []
