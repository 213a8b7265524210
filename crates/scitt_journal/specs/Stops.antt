use Rattle.std.specs.Prelude.{◌≡◌, ℕ, ◌+◌, ◌<◌, ◌≤◌, ◌^◌, List, drop, take, length, slice_index}
use Rattle.scitt_io.specs.Causes.{Rose}
use Rattle.scitt_journal.specs.Layout.{size_bytes, starts, spelled, NoLog, Short, RecordsOf, Cut}
use Rattle.scitt_journal.specs.declared.stops.BodyStop.{BodyStop}
use Rattle.scitt_journal.specs.declared.stops.BodyStop.TheVariants.{DiskFault as read_fault, OutOfMemory as read_memory}
use Rattle.scitt_journal.specs.declared.stops.CreateStop.{CreateStop}
use Rattle.scitt_journal.specs.declared.stops.CreateStop.TheVariants.{LogExists as log_exists, DiskFault as create_fault, OutOfMemory as create_memory}
use Rattle.scitt_journal.specs.declared.stops.LoadStop.{LoadStop}
use Rattle.scitt_journal.specs.declared.stops.LoadStop.TheVariants.{NoLog as no_log, Short as short, DiskFault as disk_fault, OutOfMemory as out_of_memory}

-- why a file of these bytes wasn't loaded, where the disk tells, and its counts of faults before and now: but for a fault
-- the count stays
abbrev pub ExplainsLoad : Type 0 → List ℕ → ℕ → ℕ → LoadStop → Type 0
ExplainsLoad Tells bytes before now no_log = (Tells → NoLog bytes) × (now ≡ before)
ExplainsLoad Tells bytes before now (short at) = (Tells → Short bytes at) × (now ≡ before)
ExplainsLoad Tells bytes before now disk_fault = Rose before now
ExplainsLoad Tells bytes before now out_of_memory = now ≡ before

-- why a journal wasn't created on a file of these bytes
abbrev pub ExplainsCreate : Type 0 → List ℕ → ℕ → ℕ → CreateStop → Type 0
ExplainsCreate Tells bytes before now log_exists = (Tells → (6 ≤ length bytes) × (slice_index bytes 0 ≡ 1)) × (now ≡ before)
ExplainsCreate Tells bytes before now create_fault = Rose before now
ExplainsCreate Tells bytes before now create_memory = now ≡ before

-- why a body wasn't read
abbrev pub ExplainsBody : ℕ → ℕ → BodyStop → Type 0
ExplainsBody before now read_fault = Rose before now
ExplainsBody before now read_memory = now ≡ before

-- why there is no next gate
abbrev pub ExplainsCut : Type 0 → List ℕ → ℕ → ℕ → ℕ → LoadStop → Type 0
ExplainsCut Tells bytes gate before now no_log = ⊥
ExplainsCut Tells bytes gate before now (short at) = (at ≡ gate) × (Tells → (slice_index bytes gate ≡ 1) × Cut (drop (gate + 1) bytes)) × (now ≡ before)
ExplainsCut Tells bytes gate before now disk_fault = Rose before now
ExplainsCut Tells bytes gate before now out_of_memory = ⊥

-- the record of the gate at this place is whole, and this is the next gate's place
pub record IsWhole (bytes : List ℕ) (gate next : ℕ) : Type 0 where
  pub size : ℕ
  pub fits : size < 2 ^ 32
  pub spells : size_bytes size ≡ take 4 (drop (gate + 1) bytes)
  pub place : next ≡ gate + 5 + size

-- the log of these bytes, as found: its records' offsets, the place of the gate that ends them, and the rest
pub record Finds (bytes offsets : List ℕ) (gate rest : ℕ) : Type 0 where
  pub bodies : List (List ℕ)
  pub records : RecordsOf bytes bodies rest
  pub place : length (spelled bodies) ≡ gate
  pub starts_so : offsets ≡ starts 0 bodies
