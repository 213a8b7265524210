-- What is read back of an entry.
use Rattle.std.specs.Prelude.{Some, ◌≡◌, ℕ, List, [], ◌∷◌, Option, None, Result, Err, map, slice_get, option_map, option_and_then, if◌then◌else◌}
use Rattle.std.specs.Str.{bytes_eq}
use Rattle.scitt_io.specs.Causes.{Rose}
use Rattle.merkle_tree.specs.Mth.{leaf_hash}
use Rattle.log_replay.specs.declared.parts.BatchParts.{BatchParts}
use Rattle.log_replay.specs.declared.parts.EntryParts.{EntryParts}
use Rattle.log_replay.specs.Records.{Log, Entry, record_of, batch_in, parts_of, leaves_of, homes_of}
use Rattle.log_replay.specs.Growth.{StandsAt}
use Rattle.registrar.specs.declared.reading.EntryBack.{EntryBack}
use Rattle.registrar.specs.declared.words.ReadBack.{ReadBack}
use Rattle.registrar.specs.declared.words.ReadBack.TheVariants as stop

-- the parts of the entry that stands alone and has this leaf hash
abbrev pub parts_by : List ℕ → List (List ℕ) → Option EntryParts
parts_by hash (leaf ∷ []) = if bytes_eq (leaf_hash leaf) hash then parts_of leaf else None
parts_by hash _ = None

abbrev pub back_in : List ℕ → BatchParts → Option EntryBack
back_in hash b = option_map (λ parts. record { signature = b.signature; parts = parts }) (parts_by hash b.entries)

-- what a body holds of the entry with this leaf hash; nothing where it is no Batch, or its entry is another or has another form
abbrev pub back_of : List ℕ → List ℕ → Option EntryBack
back_of hash body = option_and_then (back_in hash) (batch_in (record_of body))

-- entry i of the log stands in record n, and has this leaf hash
pub record IsPlace (R : Log) (i n : ℕ) (hash : List ℕ) : Type 0 where
  pub body : List ℕ
  pub leaf : List ℕ
  pub batch : BatchParts
  pub entry : Entry
  pub stands : StandsAt R i n body leaf batch entry
  pub hashed : hash ≡ leaf_hash leaf

-- it is entry i of the log, with the signature of its Batch
pub record IsEntry (R : Log) (i : ℕ) (back : EntryBack) : Type 0 where
  pub home : ℕ
  pub body : List ℕ
  pub leaf : List ℕ
  pub batch : BatchParts
  pub entry : Entry
  pub stands : StandsAt R i home body leaf batch entry
  pub signature : back.signature ≡ batch.signature
  pub parts : back.parts ≡ record { at = entry.at; rule = entry.rule; logged = entry.statement.logged }

-- these are the parts of an entry that has the leaf hash of entry i
pub record HasLeafHash (R : Log) (i : ℕ) (parts : EntryParts) : Type 0 where
  pub leaf : List ℕ
  pub hashed : slice_get (map leaf_hash (leaves_of R)) i ≡ Some (leaf_hash leaf)
  pub reads : parts_of leaf ≡ Some parts

-- the same of its logged form
abbrev pub IsLoggedByHash : Log → ℕ → List ℕ → Type 0
IsLoggedByHash R i logged = (parts : EntryParts) × HasLeafHash R i parts × (parts.logged ≡ logged)

-- a changed record is the one that holds entry i
abbrev pub NamesRecord : Log → ℕ → ReadBack → Type 0
NamesRecord R i (stop.Changed number) = slice_get (homes_of R) i ≡ Some number
NamesRecord R i _ = Unit {0}

-- why nothing was read back of entry i, which the log has
abbrev pub IsReadStop : Type 0 → Log → ℕ → ReadBack → Type 0
IsReadStop Tells R i (stop.Changed number) = (slice_get (homes_of R) i ≡ Some number) × (Tells → ⊥)
IsReadStop Tells R i stop.DiskFault = Unit {0}
IsReadStop Tells R i stop.OutOfMemory = Unit {0}
IsReadStop Tells R i _ = ⊥

-- the disk's count of faults before and after a read: it rose where a fault is answered, and else it stayed
abbrev pub IsReadFault : {A : Type 0} → ℕ → ℕ → Result A ReadBack → Type 0
IsReadFault before now (Err stop.DiskFault) = Rose before now
IsReadFault before now _ = now ≡ before
