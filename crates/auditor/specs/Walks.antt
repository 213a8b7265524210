-- A walk over the records of a file, as contracts see it.
use Rattle.std.specs.Prelude.{◌≡◌, ◌<◌, ◌^◌, ◌++◌, ℕ, List, Option, Some, None, length}
use Rattle.scitt_journal.specs.Layout.{NoLog, RecordsOf, CutAfter, AllFit, sized, spelled}
use Rattle.log_replay.specs.declared.state.State.{State}
use Rattle.log_replay.specs.Records.{Log}
use Rattle.log_replay.specs.WellMade.{IsFirstBad}
use Rattle.log_replay.specs.StateSeen.{StandsFor}
use Rattle.auditor.specs.declared.walk.BadRecord.{BadRecord}
use Rattle.auditor.specs.declared.walk.Walk.{Walk}
use Rattle.auditor.specs.declared.walk.End.{End}
use Rattle.auditor.specs.declared.walk.End.TheVariants as end
use Rattle.auditor.specs.declared.walk.Found.{Found}
use Rattle.auditor.specs.declared.words.Report.{Report}
use Rattle.auditor.specs.declared.words.Report.TheVariants as report

-- behind an open gate: a record, and the next gate
pub record IsRecord (tail body behind : List ℕ) : Type 0 where
  pub is : tail ≡ sized body ++ behind
  pub fits : length body < 2 ^ 32
  pub more : 0 < length behind

-- a state that stands for these records, or the first of them that fails a rule
abbrev pub Judged : State → Option BadRecord → Log → Type 0
Judged s None R = StandsFor s R
Judged s (Some bad) R = IsFirstBad R bad.number bad.failing

-- what a walk over these records knows
pub record Knows (w : Walk) (R : Log) : Type 0 where
  pub number : w.number ≡ length R
  pub judged : Judged w.state w.bad R

-- the walk is over the records before these bytes
pub record IsAt (bytes rest : List ℕ) (w : Walk) : Type 0 where
  pub log : Log
  pub fit : AllFit log
  pub is : bytes ≡ spelled log ++ rest
  pub knows : Knows w log

-- how the file ends behind these records
abbrev pub Ends : List ℕ → Log → End → Type 0
Ends bytes R end.NoLog = NoLog bytes
Ends bytes R (end.Shut rest) = RecordsOf bytes R rest
Ends bytes R (end.Cut at) = CutAfter bytes R at

-- what was found in a file
abbrev pub IsFound : List ℕ → Found → Type 0
IsFound bytes f = (R : Log) × Knows f.walk R × Ends bytes R f.end

abbrev pub bad_report : BadRecord → Report
bad_report bad = report.Bad bad.number bad.failing.why bad.failing.recorded bad.failing.found
