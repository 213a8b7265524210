-- What is asked of a map's keys, key by key: in strict they stand in order (RFC 8949, 4.2.1), in wide no two are equal (RFC 8949, 5.6).
use Rattle.std.specs.Prelude.{◌≡◌, ◌≢◌, ◌↔◌, ℕ, suc, ◌≤◌, true, List, length}
use Rattle.std.specs.List.{AllPairs}
use Rattle.cbor_core.specs.declared.words.Grammar.{Grammar}
use Rattle.cbor_core.specs.declared.words.Grammar.TheVariants.{Strict, Wide}
use Rattle.cbor_core.specs.declared.tree.Item.{Item}
use Rattle.cbor_core.specs.Limits.{most_parts}
use Rattle.cbor_core.specs.Bytes.{is_below}
use Rattle.cbor_core.specs.Spells.{Headed, SpellEach, SpellsIn}
use Rattle.cbor_core.specs.Encoding.{flat}
use Rattle.cbor_core.specs.Items.{map_item}

-- the head of a map, and then each key and its value
abbrev pub IsMapText : Grammar → ℕ → List (Item × Item) → List ℕ → Type 0
IsMapText g room pairs text = (length pairs ≤ most_parts) × Headed g 5 (length pairs) (SpellEach (SpellsIn g room) (flat pairs)) text

-- the deterministic encoding of the first key is below that of the second in the bytewise lexicographic order (RFC 8949, 4.2.1)
abbrev pub IsKeyBelow : ℕ → Item × Item → Item × Item → Type 0
IsKeyBelow room a b = (s t : List ℕ) → SpellsIn Strict room a.0 s → SpellsIn Strict room b.0 t → is_below s t ≡ true

-- the keys are equal in no way of the data model (RFC 8949, 5.6)
abbrev pub IsOtherKey : Item × Item → Item × Item → Type 0
IsOtherKey a b = a.0 ≢ b.0

-- bytes spell a map in strict exactly where they are its head, keys and values, and each key is below every later one
abbrev pub StrictKeysRise : Type 0
StrictKeysRise = (room : ℕ) (pairs : List (Item × Item)) (text : List ℕ) → SpellsIn Strict (suc room) (map_item pairs) text ↔ (IsMapText Strict room pairs text × AllPairs (IsKeyBelow room) pairs)

-- and in wide exactly where they are its head, keys and values, and each key is another than every later one
abbrev pub WideKeysDiffer : Type 0
WideKeysDiffer = (room : ℕ) (pairs : List (Item × Item)) (text : List ℕ) → SpellsIn Wide (suc room) (map_item pairs) text ↔ (IsMapText Wide room pairs text × AllPairs IsOtherKey pairs)
