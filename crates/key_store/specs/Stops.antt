-- The cause of each refusal of a key file.
use Rattle.std.specs.Prelude.{◌≡◌, ℕ, ◌≤◌, List, length, slice_index}
use Rattle.scitt_io.specs.Causes.{Rose}
use Rattle.scitt_journal.specs.declared.stops.BodyStop.{BodyStop}
use Rattle.scitt_journal.specs.declared.stops.BodyStop.TheVariants as of_body
use Rattle.scitt_journal.specs.declared.stops.CreateStop.{CreateStop}
use Rattle.scitt_journal.specs.declared.stops.CreateStop.TheVariants as of_create
use Rattle.scitt_journal.specs.declared.stops.LoadStop.{LoadStop}
use Rattle.scitt_journal.specs.declared.stops.LoadStop.TheVariants as of_load
use Rattle.scitt_journal.specs.Layout.{NoLog, Short, RecordsOf}
use Rattle.key_store.specs.declared.stops.KeyStop.{KeyStop}
use Rattle.key_store.specs.declared.stops.KeyStop.TheVariants.{KeyExists, NoKey, Short as short, BadKeyFile, DiskFault, OutOfMemory}
use Rattle.key_store.specs.Keys.{IsFirstBad}

-- a refusal of the ledger, as one of the key file
abbrev pub made_stop : CreateStop → KeyStop
made_stop of_create.LogExists = KeyExists
made_stop of_create.DiskFault = DiskFault
made_stop of_create.OutOfMemory = OutOfMemory

abbrev pub loaded_stop : LoadStop → KeyStop
loaded_stop of_load.NoLog = NoKey
loaded_stop (of_load.Short at) = short at
loaded_stop of_load.DiskFault = DiskFault
loaded_stop of_load.OutOfMemory = OutOfMemory

abbrev pub read_stop : BodyStop → KeyStop
read_stop of_body.DiskFault = DiskFault
read_stop of_body.OutOfMemory = OutOfMemory

-- why a key file wasn't made on a file of these bytes, where the disk tells, and its counts of faults before and now: but
-- for a fault the count stays
abbrev pub ExplainsMake : Type 0 → List ℕ → ℕ → ℕ → KeyStop → Type 0
ExplainsMake Tells bytes before now KeyExists = (Tells → (6 ≤ length bytes) × (slice_index bytes 0 ≡ 1)) × (now ≡ before)
ExplainsMake Tells bytes before now NoKey = ⊥
ExplainsMake Tells bytes before now (short at) = ⊥
ExplainsMake Tells bytes before now (BadKeyFile n) = ⊥
ExplainsMake Tells bytes before now DiskFault = Rose before now
ExplainsMake Tells bytes before now OutOfMemory = now ≡ before

-- the file has a list of records of which this one is the first that doesn't fit
abbrev pub HasBad : List ℕ → ℕ → Type 0
HasBad bytes n = (records : List (List ℕ)) × ((rest : ℕ) × RecordsOf bytes records rest) × IsFirstBad records n

-- why a file of these bytes wasn't loaded
abbrev pub ExplainsKey : Type 0 → List ℕ → ℕ → ℕ → KeyStop → Type 0
ExplainsKey Tells bytes before now KeyExists = ⊥
ExplainsKey Tells bytes before now NoKey = (Tells → NoLog bytes) × (now ≡ before)
ExplainsKey Tells bytes before now (short at) = (Tells → Short bytes at) × (now ≡ before)
ExplainsKey Tells bytes before now (BadKeyFile n) = (Tells → HasBad bytes n) × (now ≡ before)
ExplainsKey Tells bytes before now DiskFault = Rose before now
ExplainsKey Tells bytes before now OutOfMemory = now ≡ before

-- why these records weren't read as a key file's
abbrev pub ExplainsRead : Type 0 → List (List ℕ) → ℕ → ℕ → KeyStop → Type 0
ExplainsRead Tells records before now KeyExists = ⊥
ExplainsRead Tells records before now NoKey = ⊥
ExplainsRead Tells records before now (short at) = ⊥
ExplainsRead Tells records before now (BadKeyFile n) = (Tells → IsFirstBad records n) × (now ≡ before)
ExplainsRead Tells records before now DiskFault = Rose before now
ExplainsRead Tells records before now OutOfMemory = now ≡ before
