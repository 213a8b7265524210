-- What a command comes to: its answer, and what the key file then is.
use Rattle.std.specs.Prelude.{◌≡◌, ℕ, List, Some}
use Rattle.scitt_disk.specs.Images.{Held, ImageNow}
use Rattle.scitt_journal.specs.Layout.{RecordsOf, Recovers}
use Rattle.key_store.specs.declared.records.KeyHead.{KeyHead}
use Rattle.key_store.specs.Keys.{IsKeyFile, key_of, reserved_of}
use Rattle.scitt_tool.specs.Answer.{Answer}

-- the key file after a command: its bytes are as before, or its records tell this key and reserve so many indices
pub data KeyAfter : Type 0 where
  Kept : KeyAfter
  Keyed : (head : KeyHead) → (reserved : ℕ) → KeyAfter

pub record Outcome : Type 0 where
  pub answer : Answer
  pub key : KeyAfter

-- an answer that leaves the key file as it was
abbrev pub plain : Answer → Outcome
plain answer = record { answer = answer; key = Kept }

-- records of a key file that tell this key, and reserve so many of its indices
pub record TellKey (records : List (List ℕ)) (head : KeyHead) (reserved : ℕ) : Type 0 where
  pub file : IsKeyFile records
  pub key : key_of records ≡ Some head
  pub last : reserved_of records ≡ reserved

-- the bytes of a key file with such records
pub record IsKey (bytes : List ℕ) (head : KeyHead) (reserved : ℕ) : Type 0 where
  pub records : List (List ℕ)
  pub rest : ℕ
  pub are : RecordsOf bytes records rest
  pub tell : TellKey records head reserved

-- a crash leaves such records, at any moment from now on until the disk is written again
pub record LeavesRecords (held : Held) (head : KeyHead) (reserved : ℕ) : Type 0 where
  pub records : List (List ℕ)
  pub tell : TellKey records head reserved
  pub left : (image : List ℕ) → ImageNow held image → Recovers image records

-- what the key file's disk holds before a command and after it
abbrev pub KeyIs : KeyAfter → Held → Held → Type 0
KeyIs Kept old new = new.seen ≡ old.seen
KeyIs (Keyed head reserved) old new = LeavesRecords new head reserved

-- an answer with what the key file is afterwards is such an outcome
pub record IsOver (Tells : Type 0) (Of : Outcome → Type 0) (old new : Held) (answer : Answer) : Type 0 where
  pub after : KeyAfter
  pub comes : Of (record { answer = answer; key = after })
  pub key : Tells → KeyIs after old new
