-- A log that is begun, or found on a disk, and the cause of each refusal.
use Rattle.std.specs.Prelude.{◌≡◌, ℕ, ◌≤◌, List, [], ◌∷◌, true, false, None, Some, length, slice_index}
use Rattle.scitt_io.specs.Causes.{Rose}
use Rattle.scitt_journal.specs.declared.stops.BodyStop.{BodyStop}
use Rattle.scitt_journal.specs.declared.stops.BodyStop.TheVariants as of_body
use Rattle.scitt_journal.specs.declared.stops.CreateStop.{CreateStop}
use Rattle.scitt_journal.specs.declared.stops.CreateStop.TheVariants as of_create
use Rattle.scitt_journal.specs.declared.stops.LoadStop.{LoadStop}
use Rattle.scitt_journal.specs.declared.stops.LoadStop.TheVariants as of_load
use Rattle.scitt_journal.specs.Layout.{NoLog, Short, RecordsOf}
use Rattle.hss_keys.specs.Signing.{hss_public}
use Rattle.log_replay.specs.declared.parts.Header.{Header}
use Rattle.log_replay.specs.declared.words.Failing.{Failing}
use Rattle.log_replay.specs.declared.words.Why.{Why}
use Rattle.log_replay.specs.Records.{Log, header_record, header_of}
use Rattle.log_replay.specs.Spelling.{body_of}
use Rattle.log_replay.specs.WellMade.{WellMade, IsFirstBad, is_within_limits}
use Rattle.registrar.specs.declared.words.Params.{Params}
use Rattle.registrar.specs.declared.words.RegistrarStop.{RegistrarStop}
use Rattle.registrar.specs.declared.words.RegistrarStop.TheVariants.{BadParams, LogExists, NoLog as no_log, Short as short, BadLog, WrongKey, DiskFault, OutOfMemory}
use Rattle.registrar.specs.Turns.{Standing}

-- ---- what is begun

-- the header of these, and of the key that this seed and identifier derive
abbrev pub header_with : Params → List ℕ → List ℕ → Header
header_with p id seed = record {
  name = p.name;
  governor = p.governor;
  key = hss_public p.levels id seed;
  levels = p.levels;
  max_entries = p.max_entries;
  block = p.block;
}

abbrev pub header_bytes : Header → List ℕ
header_bytes h = body_of (header_record h)

-- a header alone
abbrev pub begun : Header → Standing
begun h = record { log = header_bytes h ∷ []; next = 0; pending = None }

-- ---- whose log it is

-- the header names the key that this seed and identifier derive for its levels
pub record HasKey (R : Log) (id seed : List ℕ) : Type 0 where
  pub header : Header
  pub first : header_of R ≡ Some header
  pub key : header.key ≡ hss_public header.levels id seed

-- a well made log whose header names another key than the derived one
pub record HasOtherKey (R : Log) (id seed kept derived : List ℕ) : Type 0 where
  pub sound : WellMade R
  pub header : Header
  pub first : header_of R ≡ Some header
  pub kept_is : kept ≡ header.key
  pub derived_is : derived ≡ hss_public header.levels id seed
  pub differ : kept ≡ derived → ⊥

-- this record is the first that fails a rule, and that is the first rule that it fails
abbrev pub IsBadAt : Log → ℕ → Why → Type 0
IsBadAt R number why = (f : Failing) × IsFirstBad R number f × (f.why ≡ why)

-- ---- causes

-- a refusal of the ledger, as one of the registrar
abbrev pub made_stop : CreateStop → RegistrarStop
made_stop of_create.LogExists = LogExists
made_stop of_create.DiskFault = DiskFault
made_stop of_create.OutOfMemory = OutOfMemory

abbrev pub loaded_stop : LoadStop → RegistrarStop
loaded_stop of_load.NoLog = no_log
loaded_stop (of_load.Short at) = short at
loaded_stop of_load.DiskFault = DiskFault
loaded_stop of_load.OutOfMemory = OutOfMemory

abbrev pub read_stop : BodyStop → RegistrarStop
read_stop of_body.DiskFault = DiskFault
read_stop of_body.OutOfMemory = OutOfMemory

-- why no log with this header was made on a file of these bytes, where the disk tells, and its counts of faults before and
-- now: but for a fault the count stays
abbrev pub ExplainsBegin : Type 0 → Header → List ℕ → ℕ → ℕ → RegistrarStop → Type 0
ExplainsBegin Tells h bytes before now BadParams = (is_within_limits h ≡ false) × (now ≡ before)
ExplainsBegin Tells h bytes before now LogExists =
    (is_within_limits h ≡ true) × (Tells → (6 ≤ length bytes) × (slice_index bytes 0 ≡ 1)) × (now ≡ before)
ExplainsBegin Tells h bytes before now DiskFault = (is_within_limits h ≡ true) × Rose before now
ExplainsBegin Tells h bytes before now OutOfMemory = (is_within_limits h ≡ true) × (now ≡ before)
ExplainsBegin Tells h bytes before now _ = ⊥

-- the file has a list of records of which this holds
abbrev pub OfRecords : List ℕ → (Log → Type 0) → Type 0
OfRecords bytes P = (R : Log) × ((rest : ℕ) × RecordsOf bytes R rest) × P R

-- why a file of these bytes wasn't loaded with this identifier and seed
abbrev pub ExplainsOpen : Type 0 → List ℕ → List ℕ → List ℕ → ℕ → ℕ → RegistrarStop → Type 0
ExplainsOpen Tells id seed bytes before now no_log = (Tells → NoLog bytes) × (now ≡ before)
ExplainsOpen Tells id seed bytes before now (short at) = (Tells → Short bytes at) × (now ≡ before)
ExplainsOpen Tells id seed bytes before now (BadLog number why) =
    (Tells → OfRecords bytes (λ R. IsBadAt R number why)) × (now ≡ before)
ExplainsOpen Tells id seed bytes before now (WrongKey kept derived) =
    (Tells → OfRecords bytes (λ R. HasOtherKey R id seed kept derived)) × (now ≡ before)
ExplainsOpen Tells id seed bytes before now DiskFault = Rose before now
ExplainsOpen Tells id seed bytes before now OutOfMemory = now ≡ before
ExplainsOpen Tells id seed bytes before now _ = ⊥

-- why these records weren't read as a log
abbrev pub ExplainsRecords : Type 0 → Log → ℕ → ℕ → RegistrarStop → Type 0
ExplainsRecords Tells R before now (BadLog number why) = (Tells → IsBadAt R number why) × (now ≡ before)
ExplainsRecords Tells R before now DiskFault = Rose before now
ExplainsRecords Tells R before now OutOfMemory = now ≡ before
ExplainsRecords Tells R before now _ = ⊥

-- why the signer of this identifier and seed isn't that of a log
abbrev pub ExplainsSigner : Log → List ℕ → List ℕ → RegistrarStop → Type 0
ExplainsSigner R id seed (WrongKey kept derived) = HasOtherKey R id seed kept derived
ExplainsSigner R id seed OutOfMemory = Unit {0}
ExplainsSigner R id seed _ = ⊥

-- why these records weren't opened as a log of this identifier and seed
abbrev pub ExplainsLog : Type 0 → List ℕ → List ℕ → Log → ℕ → ℕ → RegistrarStop → Type 0
ExplainsLog Tells id seed R before now (BadLog number why) = (Tells → IsBadAt R number why) × (now ≡ before)
ExplainsLog Tells id seed R before now (WrongKey kept derived) = (Tells → HasOtherKey R id seed kept derived) × (now ≡ before)
ExplainsLog Tells id seed R before now DiskFault = Rose before now
ExplainsLog Tells id seed R before now OutOfMemory = now ≡ before
ExplainsLog Tells id seed R before now _ = ⊥
