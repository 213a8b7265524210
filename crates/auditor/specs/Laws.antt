-- Laws of reports.
use Rattle.std.specs.Prelude.{◌≡◌, ℕ, List}
use Rattle.scitt_journal.specs.Laws.{AreBytes}
use Rattle.auditor.specs.declared.words.Report.{Report}
use Rattle.auditor.specs.declared.words.Since.{Since}
use Rattle.auditor.specs.Reports.{Reports, ReportsSince}

-- bytes have a report
abbrev pub SomeReport : Type 0
SomeReport = (bytes : List ℕ) → AreBytes bytes → (r : Report) × Reports bytes r

-- and no other
abbrev pub OneReport : Type 0
OneReport = (bytes : List ℕ) (r s : Report) → Reports bytes r → Reports bytes s → r ≡ s

-- beside an older size and root they have an answer
abbrev pub SomeSince : Type 0
SomeSince = (size : ℕ) (root bytes : List ℕ) → AreBytes bytes → (s : Since) × ReportsSince size root bytes s

-- and no other
abbrev pub OneSince : Type 0
OneSince = (size : ℕ) (root bytes : List ℕ) (s t : Since) → ReportsSince size root bytes s → ReportsSince size root bytes t → s ≡ t
