-- A key file as the list of its records, and what its calls say of it.
use Rattle.std.specs.Prelude.{◌≡◌, ℕ, ◌+◌, ◌<◌, ◌≤◌, ◌⊎◌, min, Bool, true, false, ◌&&◌, List, [], ◌∷◌, ◌++◌, length, take, slice_index_or, filter_map, fold, Option, Some, None, is_some, IfSome, Result, Ok, Err, nat_lt, nat_le}
use Rattle.scitt_io.specs.Causes.{Rose}
use Rattle.scitt_journal.specs.Layout.{Recovers}
use Rattle.hss_keys.specs.Levels.{capacity}
use Rattle.key_store.specs.declared.records.KeyHead.{KeyHead}
use Rattle.key_store.specs.declared.stops.TakeStop.{TakeStop}
use Rattle.key_store.specs.declared.stops.TakeStop.TheVariants.{Exhausted, DiskFault, OutOfMemory}
use Rattle.key_store.specs.Records.{head_of, upto_of, IsHead}

-- how many indices are reserved: what the last reservation says
abbrev pub reserved_of : List (List ℕ) → ℕ
reserved_of records = fold (λ last upto. upto) 0 (filter_map upto_of records)

-- the key that the first record tells
abbrev pub key_of : List (List ℕ) → Option KeyHead
key_of [] = None
key_of (first ∷ rest) = head_of first

-- a reservation is above the last one, by no more than a block, and within the capacity
abbrev pub reserve_holds : KeyHead → ℕ → ℕ → Bool
reserve_holds head last upto = nat_lt last upto && (nat_le upto (last + head.block) && nat_le upto (capacity head.levels))

abbrev pub holds_after : Option KeyHead → ℕ → Option ℕ → Bool
holds_after (Some head) last (Some upto) = reserve_holds head last upto
holds_after _ _ _ = false

-- a record fits behind those before it: the first one tells a key, and each later one is a reservation that holds
abbrev pub fits_behind : List (List ℕ) → List ℕ → Bool
fits_behind [] body = is_some (head_of body)
fits_behind (first ∷ rest) body = holds_after (head_of first) (reserved_of (first ∷ rest)) (upto_of body)

-- the record of this number fits behind those before it
abbrev pub fits_at : List (List ℕ) → ℕ → Bool
fits_at records n = fits_behind (take n records) (slice_index_or records n [])

-- the record of this number is the first one that doesn't
pub record IsFirstBad (records : List (List ℕ)) (n : ℕ) : Type 0 where
  pub within : n < length records
  pub before : (k : ℕ) → k < n → fits_at records k ≡ true
  pub bad : fits_at records n ≡ false

-- the records of a key file: there are some, and each fits
pub record IsKeyFile (records : List (List ℕ)) : Type 0 where
  pub some : 0 < length records
  pub each : (k : ℕ) → k < length records → fits_at records k ≡ true

-- what a key file stands for: its records, the one that may or may not count, and the next index
pub record KeyStanding : Type 0 where
  pub records : List (List ℕ)
  pub pending : Option (List ℕ)
  pub next : ℕ

-- What a caller sees of a key file: its disk, what it stands for, what its key is made from, and how many indices are
-- reserved.
pub record Keyed (D : Type 0) : Type 0 where
  pub disk : D
  pub standing : KeyStanding
  pub head : KeyHead
  pub reserved : ℕ

-- the records are those of a key file of this key, a pending one fits behind them, and the next index is within the last
-- reservation
pub record IsSound (head : KeyHead) (S : KeyStanding) : Type 0 where
  pub key : key_of S.records ≡ Some head
  pub file : IsKeyFile S.records
  pub pending : IfSome S.pending (λ body. fits_behind S.records body ≡ true)
  pub next : S.next ≤ reserved_of S.records

-- what a key file keeps: the limits of its key, the next index within the reservation and that within the capacity, each record
-- but the first raising it, and where the disk tells, all that is above
pub record IsKept (Tells : Type 0) (head : KeyHead) (S : KeyStanding) (reserved : ℕ) : Type 0 where
  pub limits : IsHead head
  pub within : S.next ≤ reserved
  pub below : reserved ≤ capacity head.levels
  pub few : length S.records ≤ reserved + 1
  pub reserved_is : Tells → reserved ≡ reserved_of S.records
  pub sound : Tells → IsSound head S

-- the reservation that is made where none is left: one block more, or all
abbrev pub IsReservation : KeyHead → KeyStanding → List ℕ → Type 0
IsReservation head S body =
    (S.next ≡ reserved_of S.records) × (S.next < capacity head.levels) × (upto_of body ≡ Some (min (S.next + head.block) (capacity head.levels)))

-- the records after a call that gave an index: those before, or with one reservation more
abbrev pub Reserves : KeyHead → KeyStanding → List (List ℕ) → Type 0
Reserves head S records = (records ≡ S.records) ⊎ ((body : List ℕ) × IsReservation head S body × (records ≡ S.records ++ body ∷ []))

-- the record that may or may not count after a fault: the one before, none, or the reservation
abbrev pub LeftPending : KeyHead → KeyStanding → Option (List ℕ) → Type 0
LeftPending head S pending = (pending ≡ S.pending) ⊎ ((pending ≡ None) ⊎ ((body : List ℕ) × IsReservation head S body × (pending ≡ Some body)))

-- a call that takes an index: what it answers, and what the file stands for after it
abbrev pub Takes : KeyHead → KeyStanding → Result ℕ TakeStop → KeyStanding → Type 0
Takes head S (Ok index) T =
    (index ≡ S.next) × (T.next ≡ S.next + 1) × (T.pending ≡ None) × (S.next < reserved_of T.records) × Reserves head S T.records
Takes head S (Err (Exhausted next most)) T =
    (S.next ≡ capacity head.levels) × (next ≡ S.next) × (most ≡ S.next) × (T ≡ record S { pending = None })
Takes head S (Err DiskFault) T = (T.records ≡ S.records) × (T.next ≡ S.next) × LeftPending head S T.pending
Takes head S (Err OutOfMemory) T = T ≡ record S { pending = None }

-- the disk's count of faults before and after such a call: but for a fault it stays
abbrev pub CountsTake : ℕ → ℕ → Result ℕ TakeStop → Type 0
CountsTake before now (Ok index) = now ≡ before
CountsTake before now (Err (Exhausted next most)) = now ≡ before
CountsTake before now (Err DiskFault) = Rose before now
CountsTake before now (Err OutOfMemory) = now ≡ before

-- a call that was refused before it gave an index, for another reason than that none is left
abbrev pub IsTakeFault : ℕ → ℕ → TakeStop → Type 0
IsTakeFault before now (Exhausted next most) = ⊥
IsTakeFault before now DiskFault = Rose before now
IsTakeFault before now OutOfMemory = now ≡ before

-- the lists that a crash at any moment may leave, between two calls or inside one: the records, those with the pending one,
-- or those with the reservation that is made where none is left
abbrev pub LeftBy : KeyHead → KeyStanding → List (List ℕ) → Type 0
LeftBy head S L =
    (L ≡ S.records) ⊎ (((body : List ℕ) × (S.pending ≡ Some body) × (L ≡ S.records ++ body ∷ [])) ⊎ ((body : List ℕ) × IsReservation head S body × (L ≡ S.records ++ body ∷ [])))

-- such a list is recovered
abbrev pub LeavesKey : KeyHead → KeyStanding → List ℕ → Type 0
LeavesKey head S image = (L : List (List ℕ)) × LeftBy head S L × Recovers image L

-- inside the making of a key file: no record is recovered, or the one that tells this key
abbrev pub LeavesMade : KeyHead → List ℕ → Type 0
LeavesMade head image = Recovers image [] ⊎ ((body : List ℕ) × (head_of body ≡ Some head) × Recovers image (body ∷ []))

-- the image holds a reservation above this index
abbrev pub HoldsAbove : ℕ → List ℕ → Type 0
HoldsAbove index image = (L : List (List ℕ)) × Recovers image L × (index < reserved_of L)
