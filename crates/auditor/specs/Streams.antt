-- A log's records, read one at a time from a source.
use Rattle.std.specs.Prelude.{◌≡◌, ℕ, ◌+◌, ◌^◌, ◌<◌, ◌≤◌, ◌↔◌, List, [], ◌∷◌, ◌++◌, Option, None, Some, length, ⊤}
use Rattle.std.specs.Io.KnownBytes.{Consumes, IsAtEnd}
use Rattle.scitt_io.specs.Causes.{Rose}
use Rattle.scitt_journal.specs.Layout.{NoLog, RecordsOf, CutAfter, spelled}
use Rattle.log_replay.specs.Records.{Log}
use Rattle.auditor.specs.declared.answers.Read.{Read}
use Rattle.auditor.specs.declared.answers.Read.TheVariants as read

-- what contracts see of a reader: the most bytes that it may take, the records that it gave, the bytes that it took and keeps, and the
-- answer that it repeats
pub record Progress : Type 0 where
  pub limit : ℕ
  pub records : Log
  pub held : List ℕ
  pub last : Option Read

-- all bytes that it took
abbrev pub seen : Progress → List ℕ
seen p = spelled p.records ++ p.held

-- What an answer says of all bytes that were taken, where these records were given before, with what is left of the source and what is kept.
abbrev pub Says : Log → List ℕ → Option (List ℕ) → Read → List ℕ → Type 0
Says R bytes left (read.Record body) held = (bytes ≡ spelled (R ++ body ∷ []) ++ held) × (length body < 2 ^ 32)
Says R bytes left (read.End rest) held = RecordsOf bytes R rest × IsAtEnd left
Says R bytes left read.NoLog held = NoLog bytes × IsAtEnd left
Says R bytes left (read.Short at) held = CutAfter bytes R at × IsAtEnd left
Says R bytes left read.ReadFault held = ⊤
Says R bytes left read.TooLong held = ⊤
Says R bytes left read.OutOfMemory held = ⊤

-- What was left before and after, and the answer: some bytes were taken, the answer is about all that were taken so far, and these are one
-- more than the limit exactly where that is the answer.
pub record Takes (before : Progress) (old new : Option (List ℕ)) (answer : Read) (held : List ℕ) : Type 0 where
  pub bytes : List ℕ
  pub taken : Consumes old new bytes
  pub within : length (seen before ++ bytes) ≤ before.limit + 1
  pub too_long : (answer ≡ read.TooLong) ↔ (length (seen before ++ bytes) ≡ before.limit + 1)
  pub says : Says before.records (seen before ++ bytes) new answer held

-- the records that were given, with those of an answer
abbrev pub records_with : Log → Read → Log
records_with R (read.Record body) = R ++ body ∷ []
records_with R _ = R

-- the answer that is repeated from then on
abbrev pub last_of : Read → Option Read
last_of (read.Record body) = None
last_of other = Some other

-- how many bytes are kept: the next gate, or none
abbrev pub kept_by : Read → ℕ
kept_by (read.Record body) = 1
kept_by _ = 0

-- the count of a source's faults over a call: it never falls, rises where the call failed by it, and stands still else
pub record HasReadCause (before now : ℕ) (failed : Type 0) : Type 0 where
  pub later : before ≤ now
  pub rose : failed → Rose before now
  pub kept : (failed → ⊥) → now ≡ before
