-- `root`: the size of a list and its Merkle root (RFC 9162, 2.1.1).
use Rattle.std.specs.Prelude.{◌≡◌, ◌≢◌, ◌⊎◌, ℕ, ◌++◌, List, length, map, Err, codes}
use Rattle.std.specs.Fmt.{decimal}
use Rattle.hex.specs.Hex.{encode_lower}
use Rattle.merkle_tree.specs.Mth.{mth, leaf_hash}
use Rattle.cbor_core.specs.declared.tree.Item.{Item}
use Rattle.cbor_core.specs.declared.tree.Node.TheVariants.{Array}
use Rattle.cbor_core.specs.declared.words.Fault.{Fault}
use Rattle.cbor_core.specs.declared.words.DecodeStop.TheVariants.{Fault as AtFault}
use Rattle.cbor_core.specs.declared.words.Grammar.TheVariants.{Strict}
use Rattle.cbor_core.specs.Spells.{Spells}
use Rattle.cose_sign1.specs.Tbs.{byte_item}
use Rattle.cbor_core.specs.Decoding.{DecodedAll}
use Rattle.scitt_tool.specs.Answer.{Answer, line, done, refused}
use Rattle.scitt_tool.specs.FaultText.{fault_text}

-- the lines for a list of this size and root
abbrev pub root_lines : ℕ → List ℕ → List ℕ
root_lines size root = line (codes "size " ++ decimal size) ++ line (codes "root " ++ encode_lower root)

-- an array of byte strings
abbrev pub strings_item : List (List ℕ) → Item
strings_item strings = record { node = Array (map byte_item strings) }

-- a tree over these items, which are byte strings
pub record HoldsItems (items : List Item) (leaves : List (List ℕ)) : Type 0 where
  pub strings : List (List ℕ)
  pub items_are : items ≡ map byte_item strings
  pub leaves_are : leaves ≡ map leaf_hash strings

-- a tree over the strings of this item, which is an array of byte strings
pub record HoldsStrings (item : Item) (leaves : List (List ℕ)) : Type 0 where
  pub strings : List (List ℕ)
  pub item_is : item ≡ strings_item strings
  pub leaves_are : leaves ≡ map leaf_hash strings

-- the bytes strictly spell an array of byte strings
pub record SpellsStrings (bytes : List ℕ) (answer : Answer) : Type 0 where
  pub strings : List (List ℕ)
  pub spelled : Spells Strict (strings_item strings) bytes
  pub is : answer ≡ done (root_lines (length strings) (mth strings))

-- they strictly spell another item
pub record SpellsOther (bytes : List ℕ) (answer : Answer) : Type 0 where
  pub item : Item
  pub spelled : Spells Strict item bytes
  pub other : (strings : List (List ℕ)) → item ≢ strings_item strings
  pub is : answer ≡ refused (codes "refused shape")

-- they strictly spell no item, and have this first fault
pub record HasFault (bytes : List ℕ) (answer : Answer) : Type 0 where
  pub fault : Fault
  pub first : DecodedAll Strict bytes (Err (AtFault fault))
  pub is : answer ≡ refused (codes "refused cbor " ++ fault_text fault)

-- the answer by a file's bytes
abbrev pub RootOf : List ℕ → Answer → Type 0
RootOf bytes answer = SpellsStrings bytes answer ⊎ (SpellsOther bytes answer ⊎ HasFault bytes answer)
