-- One call on a registrar, as a relation of what it stands for before and after.
use Rattle.std.specs.Prelude.{◌≡◌, ℕ, ◌+◌, ◌<◌, ◌≤◌, ◌⊎◌, min, List, [], ◌∷◌, ◌++◌, Bool, true, false, nat_lt, ◌==◌, if◌then◌else◌, Option, None, Some, IfSome, unwrap_or, Result, Ok, Err, length, option_map}
use Rattle.cbor_core.specs.Rows.{first_row}
use Rattle.hss_keys.specs.Levels.{capacity}
use Rattle.statement.specs.Said.{Said}
use Rattle.log_replay.specs.declared.parts.Header.{Header}
use Rattle.log_replay.specs.declared.words.Judgement.{Judgement}
use Rattle.log_replay.specs.declared.words.Judgement.TheVariants as judged
use Rattle.log_replay.specs.Records.{Log, header_of, entries_of, reserved_of, logged_bytes, reserve_record, batch_record, record_of}
use Rattle.log_replay.specs.Judging.{judge, moment_after, key_of}
use Rattle.log_replay.specs.WellMade.{WellMade, most_logged_bytes}
use Rattle.log_replay.specs.Spelling.{body_of, entry_bytes}
use Rattle.log_replay.specs.Answers.{receipt_of, consistency_of, statement_at, keys_of, policy_bytes}
use Rattle.registrar.specs.declared.words.Outcome.{Outcome}
use Rattle.registrar.specs.declared.words.Outcome.TheVariants as answer
use Rattle.registrar.specs.declared.words.ReadBack.{ReadBack}
use Rattle.registrar.specs.declared.words.ReadBack.TheVariants as stop

-- what a registrar stands for: its log, the next signing index, and the record whose gate has to be closed first
pub record Standing : Type 0 where
  pub log : Log
  pub next : ℕ
  pub pending : Option (List ℕ)

-- ---- what is decided before anything is written

pub data Ruling : Type 0 where
  knows : (index : ℕ) → Ruling
  denies : (rule : ℕ) → Ruling
  full : (entries bytes : ℕ) → Ruling
  spent : (next capacity : ℕ) → Ruling
  goes : (rule : ℕ) → Ruling

-- the logged bytes of the log with this statement
abbrev pub bytes_with : Standing → Said → ℕ
bytes_with S s = logged_bytes (entries_of S.log) + length s.logged

-- what stands in the way of a statement that is admitted
abbrev pub rows_of_room : Header → Standing → Said → List (Bool × Ruling)
rows_of_room h S s =
    (length (entries_of S.log) == h.max_entries, full (length (entries_of S.log)) (bytes_with S s))
    ∷ (nat_lt most_logged_bytes (bytes_with S s), full (length (entries_of S.log)) (bytes_with S s))
    ∷ (S.next == capacity h.levels, spent S.next (capacity h.levels))
    ∷ []

abbrev pub ruling_on : Header → Standing → Said → Judgement → Ruling
ruling_on h S s (judged.Known i) = knows i
ruling_on h S s (judged.Deny rule) = denies rule
ruling_on h S s (judged.Admit rule) = unwrap_or (first_row (rows_of_room h S s)) (goes rule)

abbrev pub ruling_of : Standing → Said → ℕ → Option Ruling
ruling_of S s m = option_map (λ h. ruling_on h S s (judge h (entries_of S.log) s m)) (header_of S.log)

-- ---- what is written

-- the records before a Batch: one Reserve more exactly where the reservation is used up
abbrev pub reserve_needed : Header → Log → List ℕ
reserve_needed h R = body_of (reserve_record (min (reserved_of R + h.block) (capacity h.levels)))

abbrev pub log_with : Option (List ℕ) → Log → Log
log_with None R = R
log_with (Some body) R = R ++ body ∷ []

abbrev pub needed_of : Standing → Option (List ℕ)
needed_of S = if S.next == reserved_of S.log then option_map (λ h. reserve_needed h S.log) (header_of S.log) else None

abbrev pub ready_log : Standing → Log
ready_log S = log_with (needed_of S) S.log

-- a body that reads as a Batch of these entries at this index
abbrev pub IsBatch : List (List ℕ) → ℕ → List ℕ → Type 0
IsBatch entries index body =
    (signature : List ℕ) × (record_of body ≡ Some (batch_record (record { entries = entries; index = index; signature = signature })))

-- the entry of a statement that the log takes at this moment
abbrev pub new_entry : Standing → Said → ℕ → ℕ → List ℕ
new_entry S s m rule = entry_bytes (moment_after (entries_of S.log) m) rule s.logged

-- ---- what a registration leaves

-- nothing but the pending record is gone
pub record Settles (old new : Standing) : Type 0 where
  pub log : new.log ≡ old.log
  pub next : new.next ≡ old.next
  pub pending : new.pending ≡ None

-- the log has one Batch more, of these entries
pub record Adds (old : Standing) (entries : List (List ℕ)) (new : Standing) : Type 0 where
  pub body : List ℕ
  pub batch : IsBatch entries old.next body
  pub log : new.log ≡ ready_log old ++ body ∷ []
  pub next : new.next ≡ old.next + 1
  pub pending : new.pending ≡ None

-- a write of the Reserve failed, or one of the Batch; what is pending is the record whose gate's write was begun
pub record StopsAtReserve (old new : Standing) : Type 0 where
  pub needed : List ℕ
  pub is_needed : needed_of old ≡ Some needed
  pub log : new.log ≡ old.log
  pub next : new.next ≡ old.next
  pub pending : IfSome new.pending (λ body. body ≡ needed)

pub record StopsAtBatch (old : Standing) (entries : List (List ℕ)) (new : Standing) : Type 0 where
  pub log : new.log ≡ ready_log old
  pub next : new.next ≡ old.next + 1
  pub pending : IfSome new.pending (IsBatch entries old.next)

abbrev pub Stops : Standing → List (List ℕ) → Standing → Type 0
Stops old entries new = StopsAtReserve old new ⊎ StopsAtBatch old entries new

-- a repair failed: there was something to close
pub record RepairFails (old new : Standing) : Type 0 where
  pub was : List ℕ
  pub pending : old.pending ≡ Some was
  pub same : new ≡ old

abbrev pub WriteFails : Standing → Said → ℕ → Standing → Type 0
WriteFails old s m new = (rule : ℕ) × (ruling_of old s m ≡ Some (goes rule)) × Stops old (new_entry old s m rule ∷ []) new

abbrev pub ReadFails : Standing → Said → ℕ → Standing → Type 0
ReadFails old s m new = (index : ℕ) × (ruling_of old s m ≡ Some (knows index)) × Settles old new

abbrev pub takes_memory : Option Ruling → Bool
takes_memory (Some (knows i)) = true
takes_memory (Some (goes rule)) = true
takes_memory _ = false

-- a registration at moment m, by its answer; what was read back is claimed where the disk tells what it holds
abbrev pub Registers : Type 0 → Standing → Said → ℕ → Outcome → Standing → Type 0
Registers Tells old s m (answer.Known i receipt) new =
    Settles old new × (ruling_of old s m ≡ Some (knows i)) × (Tells → receipt_of old.log i ≡ Some receipt)
Registers Tells old s m (answer.Denied rule size moment) new =
    Settles old new × (ruling_of old s m ≡ Some (denies rule))
    × (size ≡ length (entries_of old.log)) × (moment ≡ moment_after (entries_of old.log) m)
Registers Tells old s m (answer.LogFull entries bytes) new = Settles old new × (ruling_of old s m ≡ Some (full entries bytes))
Registers Tells old s m (answer.KeyExhausted next capacity) new = Settles old new × (ruling_of old s m ≡ Some (spent next capacity))
Registers Tells old s m (answer.Admitted i receipt) new =
    (rule : ℕ) × (ruling_of old s m ≡ Some (goes rule)) × Adds old (new_entry old s m rule ∷ []) new
    × (i ≡ length (entries_of old.log)) × (receipt_of new.log i ≡ Some receipt)
Registers Tells old s m answer.OutOfMemory new = Settles old new × (takes_memory (ruling_of old s m) ≡ true)
Registers Tells old s m answer.DiskFault new = RepairFails old new ⊎ (ReadFails old s m new ⊎ WriteFails old s m new)
Registers Tells old s m (answer.Changed number) new = ReadFails old s m new × (Tells → ⊥)

-- ---- what the calls that read answer

-- the bytes, where the log has the entry
abbrev pub ReadsEntry : Type 0 → Log → ℕ → Option (List ℕ) → Result (List ℕ) ReadBack → Type 0
ReadsEntry Tells R i found (Ok bytes) = (i < length (entries_of R)) × (Tells → found ≡ Some bytes)
ReadsEntry Tells R i found (Err (stop.NoEntry index size)) = (index ≡ i) × (size ≡ length (entries_of R)) × (size ≤ i)
ReadsEntry Tells R i found (Err (stop.Changed number)) = (i < length (entries_of R)) × (Tells → ⊥)
ReadsEntry Tells R i found (Err stop.DiskFault) = i < length (entries_of R)
ReadsEntry Tells R i found (Err stop.OutOfMemory) = i < length (entries_of R)
ReadsEntry Tells R i found (Err (stop.NoSuchSize old size)) = ⊥

-- an older size of the log
abbrev pub IsOlder : Log → ℕ → Type 0
IsOlder R old = (0 < old) × (old ≤ length (entries_of R))

abbrev pub ReadsSize : Type 0 → Log → ℕ → Result (List ℕ) ReadBack → Type 0
ReadsSize Tells R old (Ok bytes) = IsOlder R old × (Tells → consistency_of R old ≡ Some bytes)
ReadsSize Tells R old (Err (stop.NoSuchSize asked size)) =
    (asked ≡ old) × (size ≡ length (entries_of R)) × ((old ≡ 0) ⊎ (size < old))
ReadsSize Tells R old (Err (stop.Changed number)) = IsOlder R old × (Tells → ⊥)
ReadsSize Tells R old (Err stop.DiskFault) = IsOlder R old
ReadsSize Tells R old (Err stop.OutOfMemory) = IsOlder R old
ReadsSize Tells R old (Err (stop.NoEntry index size)) = ⊥

-- ---- all calls

pub data Call : Type 0 where
  register_call : Said → ℕ → Call
  receipt_call : ℕ → Call
  statement_call : ℕ → Call
  consistency_call : ℕ → Call
  policy_call : Call
  keys_call : Call
  key_hint_call : Said → Call

pub data Answer : Type 0 where
  registered : Outcome → Answer
  read : Result (List ℕ) ReadBack → Answer
  made : Option (List ℕ) → Answer
  hint : Option (List ℕ) → Answer

-- bytes of the log, or nothing for want of memory
abbrev pub MadeOf : Option (List ℕ) → Option (List ℕ) → Type 0
MadeOf found None = Unit {0}
MadeOf found (Some bytes) = found ≡ Some bytes

abbrev pub Turns : Type 0 → Standing → Call → Answer → Standing → Type 0
Turns Tells old (register_call s m) (registered o) new = Registers Tells old s m o new
Turns Tells old (receipt_call i) (read r) new = (new ≡ old) × ReadsEntry Tells old.log i (receipt_of old.log i) r
Turns Tells old (statement_call i) (read r) new = (new ≡ old) × ReadsEntry Tells old.log i (statement_at old.log i) r
Turns Tells old (consistency_call n) (read r) new = (new ≡ old) × ReadsSize Tells old.log n r
Turns Tells old policy_call (made b) new = (new ≡ old) × MadeOf (policy_bytes old.log) b
Turns Tells old keys_call (made b) new = (new ≡ old) × MadeOf (keys_of old.log) b
Turns Tells old (key_hint_call s) (hint k) new = (new ≡ old) × (key_of old.log s ≡ k)
Turns Tells old _ _ new = ⊥

-- the log, and the log with the pending record, are well made
pub record IsSound (S : Standing) : Type 0 where
  pub log : WellMade S.log
  pub pending : IfSome S.pending (λ body. WellMade (S.log ++ body ∷ []))

pub record Turn (Tells : Type 0) (old : Standing) (call : Call) (answer : Answer) (new : Standing) : Type 0 where
  pub before : IsSound old
  pub turns : Turns Tells old call answer new
  pub after : IsSound new
