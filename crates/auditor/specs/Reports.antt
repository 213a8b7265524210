-- What a log's bytes say to an auditor.
use Rattle.std.specs.Prelude.{◌≡◌, ◌≢◌, ◌⊎◌, ◌<◌, ◌≤◌, ℕ, List, length, take}
use Rattle.merkle_tree.specs.Mth.{mth}
use Rattle.scitt_journal.specs.Layout.{NoLog, RecordsOf, CutAfter}
use Rattle.log_replay.specs.Records.{Log, entries_of, leaves_of}
use Rattle.log_replay.specs.WellMade.{WellMade, IsFirstBad}
use Rattle.auditor.specs.declared.words.Report.{Report}
use Rattle.auditor.specs.declared.words.Report.TheVariants as report
use Rattle.auditor.specs.declared.words.Since.{Since}
use Rattle.auditor.specs.declared.words.Since.TheVariants as since

-- the records of these bytes: those before a gate that isn't open, or before a record that passes the end
abbrev pub Holds : List ℕ → Log → Type 0
Holds bytes R = ((rest : ℕ) × RecordsOf bytes R rest) ⊎ ((at : ℕ) × CutAfter bytes R at)

-- these bytes are a well made log, and so many bytes after the gate that ends it
pub record IsClean (bytes : List ℕ) (R : Log) (rest : ℕ) : Type 0 where
  pub holds : RecordsOf bytes R rest
  pub sound : WellMade R

-- the number of its records and entries, and their root (RFC 9162, 2.1.1)
pub record Measures (R : Log) (records entries : ℕ) (root : List ℕ) : Type 0 where
  pub count : records ≡ length R
  pub entry_count : entries ≡ length (entries_of R)
  pub mth_is : root ≡ mth (leaves_of R)

-- what these bytes say
abbrev pub Reports : List ℕ → Report → Type 0
Reports bytes (report.Clean records entries rest root) = (R : Log) × IsClean bytes R rest × Measures R records entries root
Reports bytes (report.Bad number why recorded found) =
    (R : Log) × Holds bytes R × IsFirstBad R number (record { why = why; recorded = recorded; found = found })
Reports bytes report.NoLog = NoLog bytes
Reports bytes (report.Short at) = (R : Log) × CutAfter bytes R at × WellMade R

-- the first entries of a log, so many of them, have this root
pub record BeginsWith (R : Log) (size : ℕ) (root : List ℕ) : Type 0 where
  pub within : size ≤ length (entries_of R)
  pub front : mth (take size (leaves_of R)) ≡ root

-- what these bytes say beside an older size and root
abbrev pub ReportsSince : ℕ → List ℕ → List ℕ → Since → Type 0
ReportsSince size old bytes (since.Report (report.Clean records entries rest root)) =
    (R : Log) × IsClean bytes R rest × Measures R records entries root × BeginsWith R size old
ReportsSince size old bytes (since.Report other) = Reports bytes other
ReportsSince size old bytes (since.OldSize entries) =
    (R : Log) × (rest : ℕ) × IsClean bytes R rest × (entries ≡ length (entries_of R)) × (entries < size)
ReportsSince size old bytes (since.OldRoot found) =
    (R : Log) × (rest : ℕ) × IsClean bytes R rest × BeginsWith R size found × (found ≢ old)
