-- The log of a server's start: found on the disk, or begun there by the parameter file.
use Rattle.std.specs.Prelude.{◌≡◌, ◌⊎◌, ℕ, List}
use Rattle.scitt_journal.specs.Layout.{NoLog, RecordsOf}
use Rattle.log_replay.specs.WellMade.{is_within_limits}
use Rattle.registrar.specs.declared.words.Params.{Params}
use Rattle.registrar.specs.declared.words.RegistrarStop.{RegistrarStop}
use Rattle.registrar.specs.declared.words.RegistrarStop.TheVariants.{BadParams, LogExists, NoLog as no_log, Short, BadLog, WrongKey, DiskFault, OutOfMemory}
use Rattle.registrar.specs.Opening.{header_with, begun, ExplainsOpen, ExplainsBegin}
use Rattle.registrar.specs.Turns.{Standing}
use Rattle.log_params.specs.ParamFiles.{ParamsOf}
use Rattle.scittd.specs.declared.files.Seed.{Seed}
use Rattle.scittd.specs.declared.fault.StartFault.{StartFault}
use Rattle.scittd.specs.declared.fault.StartFault.TheVariants.{LogRefused, ParamsRefused, NoMemory}
use Rattle.scittd.specs.declared.given.Given.{Given}
use Rattle.scittd.specs.Reading.{Told, OfFile, SeedOf}

-- what a refusal of the registrar is to the start
abbrev pub fault_of : RegistrarStop → StartFault
fault_of OutOfMemory = NoMemory
fault_of BadParams = ParamsRefused
fault_of _ = LogRefused

-- the parameters that the named file has, where files are told
abbrev pub ReadsParams : Told → List ℕ → Params → Type 0
ReadsParams told name params = OfFile told name (λ bytes. ParamsOf bytes params)

-- the log is the one that a file of these bytes has
abbrev pub IsFound : List ℕ → Standing → Type 0
IsFound bytes s = (rest : ℕ) × RecordsOf bytes s.log rest

-- the file had none, and the log is begun by the named parameters
abbrev pub IsBegun : Type 0 → Told → List ℕ → Seed → List ℕ → Standing → Type 0
IsBegun Tells told name seed bytes s =
    (Tells → NoLog bytes) × ((params : Params) × ReadsParams told name params × (s ≡ begun (header_with params seed.id seed.seed)))

-- Why the log isn't loaded: a cause of the registrar's that isn't the want of memory, or that there is none.
abbrev pub IsNotFound : Type 0 → Seed → List ℕ → ℕ → Type 0
IsNotFound Tells seed bytes before =
    (why : RegistrarStop) × (fault_of why ≡ LogRefused) × ((why ≡ no_log) → ⊥) × ((now : ℕ) × ExplainsOpen Tells seed.id seed.seed bytes before now why)

-- why it isn't begun by the parameters that were read: the registrar's cause, which is this to the start
abbrev pub IsNotBegun : Type 0 → Told → List ℕ → Seed → List ℕ → ℕ → StartFault → Type 0
IsNotBegun Tells told name seed bytes before fault =
    (params : Params) × ReadsParams told name params
    × ((why : RegistrarStop) × (fault_of why ≡ fault) × ((now : ℕ) × ExplainsBegin Tells (header_with params seed.id seed.seed) bytes before now why))

-- this holds of a seed and an identifier that the seed file has, where files are told
abbrev pub OfSeed : Told → Given → (Seed → Type 0) → Type 0
OfSeed told given P = (seed : Seed) × OfFile told given.seed.now (λ bytes. SeedOf bytes seed) × P seed
