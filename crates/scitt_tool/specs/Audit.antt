-- `audit`: whether a log's bytes hold records that are well made.
use Rattle.std.specs.Prelude.{◌≡◌, ◌≤◌, ◌<◌, ◌⊎◌, ℕ, ◌++◌, List, length, Option, Some, Result, Ok, Err, codes}
use Rattle.std.specs.Fmt.{decimal}
use Rattle.hex.specs.Hex.{encode_lower}
use Rattle.log_replay.specs.declared.words.Why.{Why}
use Rattle.log_replay.specs.declared.words.Why.TheVariants as why
use Rattle.auditor.specs.declared.words.Report.{Report}
use Rattle.auditor.specs.declared.words.Report.TheVariants.{Clean, Bad, NoLog, Short}
use Rattle.auditor.specs.Reports.{Reports}
use Rattle.scitt_io.specs.declared.source.ReadStop.{ReadStop}
use Rattle.scitt_io.specs.declared.source.ReadStop.TheVariants.{TooLong, ReadFault, OutOfMemory}
use Rattle.scitt_io.specs.Causes.{Rose}
use Rattle.scitt_tool.specs.Answer.{Answer, line, done, refused, unread, too_long}
use Rattle.scitt_tool.specs.Reads.{FileOf, TellsFile}

-- the rule that a record fails, by its name
abbrev pub rule_name : Why → List ℕ
rule_name why.Form = codes "Form"
rule_name why.Order = codes "Order"
rule_name why.Header = codes "Header"
rule_name why.Reserve = codes "Reserve"
rule_name why.EntryForm = codes "EntryForm"
rule_name why.Moment = codes "Moment"
rule_name why.Verdict = codes "Verdict"
rule_name why.Full = codes "Full"
rule_name why.Index = codes "Index"
rule_name why.Signature = codes "Signature"

-- the line for a log that is well made
abbrev pub count_text : ℕ → ℕ → List ℕ
count_text records entries = codes "clean records " ++ decimal records ++ (codes " entries " ++ decimal entries)

abbrev pub end_text : ℕ → List ℕ → List ℕ
end_text rest root = codes " rest " ++ decimal rest ++ codes " root " ++ encode_lower root

abbrev pub clean_text : ℕ → ℕ → ℕ → List ℕ → List ℕ
clean_text records entries rest root = count_text records entries ++ end_text rest root

-- the line for the first record that fails a rule
abbrev pub record_text : ℕ → Why → List ℕ
record_text number why = codes "bad record " ++ decimal number ++ codes " " ++ rule_name why

abbrev pub verdict_text : ℕ → ℕ → List ℕ
verdict_text recorded found = codes " recorded " ++ decimal recorded ++ codes " found " ++ decimal found

abbrev pub bad_text : ℕ → Why → ℕ → ℕ → List ℕ
bad_text number why recorded found = record_text number why ++ verdict_text recorded found

-- how a report is printed
abbrev pub report_answer : Report → Answer
report_answer (Clean records entries rest root) = done (line (clean_text records entries rest root))
report_answer (Bad number why recorded found) = refused (bad_text number why recorded found)
report_answer NoLog = refused (codes "refused no log")
report_answer (Short at) = refused (codes "refused short " ++ decimal at)

-- the answer by a file's bytes
pub record AuditOf (bytes : List ℕ) (answer : Answer) : Type 0 where
  pub report : Report
  pub says : Reports bytes report
  pub is : answer ≡ report_answer report

-- what a file of at most so many bytes says, or it is longer; nothing is said of a refused read
abbrev pub AuditedOf : ℕ → Option (List ℕ) → Result Report ReadStop → Type 0
AuditedOf limit content (Ok report) = (bytes : List ℕ) × (content ≡ Some bytes) × (length bytes ≤ limit) × Reports bytes report
AuditedOf limit content (Err TooLong) = (bytes : List ℕ) × (content ≡ Some bytes) × (limit < length bytes)
AuditedOf limit content (Err ReadFault) = Unit {0}
AuditedOf limit content (Err OutOfMemory) = Unit {0}

-- how long a log's file may be, in bytes
abbrev pub log_limit : ℕ
log_limit = 3221225472

-- the file's bytes were judged
pub record IsReported (told : Option FileOf) (name : List ℕ) (before now : ℕ) (answer : Answer) : Type 0 where
  pub content : Option (List ℕ)
  pub report : Report
  pub tells : TellsFile told name content
  pub audited : AuditedOf log_limit content (Ok report)
  pub is : answer ≡ report_answer report
  pub calm : now ≡ before

-- the file is longer than the limit
pub record IsPast (told : Option FileOf) (name : List ℕ) (before now : ℕ) (answer : Answer) : Type 0 where
  pub content : Option (List ℕ)
  pub tells : TellsFile told name content
  pub longer : AuditedOf log_limit content (Err TooLong)
  pub is : answer ≡ too_long log_limit
  pub calm : now ≡ before

-- the answer to the audit of a named file, by what files are told and by the folder's counts of faults before and after
abbrev pub AuditsFile : Option FileOf → List ℕ → ℕ → ℕ → Answer → Type 0
AuditsFile told name before now answer =
    IsReported told name before now answer ⊎ (IsPast told name before now answer ⊎ ((answer ≡ unread) × Rose before now))
