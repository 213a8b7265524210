-- A ledger, as contracts see it, and what its journal keeps of it.
use Rattle.std.specs.Prelude.{◌≡◌, ℕ, List, [], ◌∷◌, ◌++◌, length, Option, None, Some, is_some}
use Rattle.scitt_disk.specs.Images.{Held}
use Rattle.scitt_journal.specs.Layout.{Recovers, OneOf}
use Rattle.scitt_journal.specs.Log.{Log}
use Rattle.scitt_journal.specs.State.{AtRest, InDoubt}
use Rattle.scitt_journal.specs.declared.records.Pending.{Pending}
use Rattle.scitt_journal.specs.declared.records.Pending.TheVariants.{Settled, Record}
use Rattle.scitt_journal.specs.declared.records.Records.{Records, Nothing, Then'}

-- What a caller sees of a ledger: its disk, the bodies of its records, that of the record that may or may not count, the
-- length of the longest body that may be added, and how many records may be.
pub record Kept (D : Type 0) : Type 0 where
  pub disk : D
  pub records : List (List ℕ)
  pub pending : Option (List ℕ)
  pub room : ℕ
  pub places : ℕ

-- the bodies that were handed in or read, the first one first
abbrev pub bodies_of : Records → List (List ℕ)
bodies_of Nothing = []
bodies_of (Then' _ before body) = bodies_of before ++ body.value.items ∷ []

-- the body of the pending record, if there is one
abbrev pub pending_of : Pending → Option (List ℕ)
pending_of Settled = None
pending_of (Record body) = Some body.value.items

-- a journal at rest keeps these records, and one in need of repair these and the pending one
abbrev pub Keeps : {D : Type 0} → (D → Held) → Log D → List (List ℕ) → Option (List ℕ) → Type 0
Keeps held journal records None = AtRest held journal records
Keeps held journal records (Some body) = InDoubt held journal records body

-- a journal that keeps these: a repair is needed exactly where a record is pending
pub record Holds {D : Type 0} (Tells : Type 0) (held : D → Held) (journal : Log D) (records : List (List ℕ)) (pending : Option (List ℕ)) : Type 0 where
  pub marked : journal.needs_repair ≡ is_some pending
  pub counted : journal.count ≡ length records
  pub kept : Tells → Keeps held journal records pending

-- what an image recovers between two calls: the records, or those with the pending one
abbrev pub Between : List (List ℕ) → Option (List ℕ) → List ℕ → Type 0
Between records None image = Recovers image records
Between records (Some body) image = OneOf records body image
