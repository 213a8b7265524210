-- A set of public keys (RFC 9052, 7), each of the kind HSS-LMS (RFC 8778, 4).
use Rattle.std.specs.Prelude.{◌≡◌, ℕ, ◌*◌, ◌≤◌, true, List, [], ◌∷◌, length, map}
use Rattle.sha2.specs.Sha256.{sha256}
use Rattle.cbor_core.specs.declared.tree.Item.{Item}
use Rattle.cbor_core.specs.Items.{uint_item, nint_item, bytes_item, array_item, map_item}
use Rattle.cbor_core.specs.Fitting.{all_items, is_strict_item, len_sum, strict_len}

-- {1: 5, 2: kid, 3: -46, -1: key}; the kid is the key's digest
abbrev pub key_entries : List ℕ → List ℕ → List (Item × Item)
key_entries kid key = (uint_item 1, uint_item 5) ∷ (uint_item 2, bytes_item kid) ∷ (uint_item 3, nint_item 45) ∷ (nint_item 0, bytes_item key) ∷ []

abbrev pub key_item : List ℕ → Item
key_item key = map_item (key_entries (sha256 key) key)

-- the array of them
abbrev pub key_set_item : List (List ℕ) → Item
key_set_item keys = array_item (map key_item keys)

-- a key's item, which has strict bytes, and few
pub record IsKeyItem (key : List ℕ) (item : Item) : Type 0 where
  pub value : item ≡ key_item key
  pub strict : is_strict_item 15 item ≡ true
  pub short : strict_len 15 item ≤ 200

-- the keys' items
pub record AreKeyItems (keys : List (List ℕ)) (items : List Item) : Type 0 where
  pub values : items ≡ map key_item keys
  pub strict : all_items (is_strict_item 15) items ≡ true
  pub short : len_sum (strict_len 15) items ≤ 200 * length keys
