-- The bodies of records and the bytes of entries.
use Rattle.std.specs.Prelude.{◌≡◌, ℕ, ◌+◌, ◌≤◌, ◌<◌, true, List, [], ◌∷◌, ◌++◌, length, Some}
use Rattle.cbor_core.specs.declared.words.Grammar.TheVariants.{Strict}
use Rattle.cbor_core.specs.declared.tree.Item.{Item}
use Rattle.cbor_core.specs.Limits.{most_containers}
use Rattle.cbor_core.specs.Head.{head}
use Rattle.cbor_core.specs.Encoding.{size_of, most}
use Rattle.cbor_core.specs.Spells.{Spells}
use Rattle.cbor_core.specs.Decoding.{strict_item}
use Rattle.cbor_core.specs.Fitting.{is_strict_item, strict_len}
use Rattle.cbor_core.specs.Exact.{strict_text}
use Rattle.log_replay.specs.Records.{Record, record_item, entry_item, record_of, parts_of, most_body}

-- the body of a record
unfoldable pub body_of : Record → List ℕ
body_of r = strict_text (record_item r)

-- the bytes of an entry
unfoldable pub entry_bytes : ℕ → ℕ → List ℕ → List ℕ
entry_bytes at rule logged = strict_text (entry_item at rule logged)

-- what stands in them before a logged form of so many bytes: the head of an array of four, the number 1, the moment, the rule, and the
-- head of a byte string (RFC 8949, 3)
abbrev pub entry_front : ℕ → ℕ → ℕ → List ℕ
entry_front at rule len = (132 ∷ 1 ∷ []) ++ (head 0 (size_of at) at ++ (head 0 (size_of rule) rule ++ head 2 (size_of len) len))

-- these bytes are the strict ones of an item, which is read from them again
pub record IsWritten (item : Item) (text : List ℕ) : Type 0 where
  pub spelled : Spells Strict item text
  pub written : text ≡ strict_text item
  pub read : strict_item text ≡ Some item
  pub len : length text ≡ strict_len most_containers item

-- an item has strict bytes, at most so many
pub record FitsIn (most : ℕ) (item : Item) : Type 0 where
  pub strict : is_strict_item most_containers item ≡ true
  pub short : strict_len most_containers item ≤ most
  pub some : 0 < strict_len most_containers item

-- an item has strict bytes, no more than a buffer holds
pub record HasBytes (item : Item) : Type 0 where
  pub strict : is_strict_item most_containers item ≡ true
  pub short : strict_len most_containers item ≤ most

-- a body of a record: it reads as that record, and isn't empty or too long
pub record IsBodyOf (r : Record) (body : List ℕ) : Type 0 where
  pub written : body ≡ body_of r
  pub read : record_of body ≡ Some r
  pub some : 0 < length body
  pub short : length body ≤ most_body

-- the bytes of an entry, which read as its parts
pub record IsEntryOf (at rule : ℕ) (logged leaf : List ℕ) : Type 0 where
  pub written : leaf ≡ entry_bytes at rule logged
  pub read : parts_of leaf ≡ Some (record { at = at; rule = rule; logged = logged })
  pub short : length leaf ≤ 45 + length logged
