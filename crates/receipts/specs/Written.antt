-- The item that a receipt is written as.
use Rattle.std.specs.Prelude.{ℕ, List, [], ◌∷◌, map}
use Rattle.cbor_core.specs.declared.tree.Item.{Item}
use Rattle.cbor_core.specs.Exact.{strict_text}
use Rattle.cbor_core.specs.Items.{uint_item, nint_item, bytes_item, text_item, array_item, map_item, tag_item, nil_item}
use Rattle.receipts.specs.declared.receipt.Receipt.{Receipt}
use Rattle.receipts.specs.declared.receipt.Proof.{Proof}
use Rattle.receipts.specs.declared.receipt.Proof.TheVariants.{Inclusion, Consistency}

-- the protected string: {1: -46, 4: kid, 15: {1: name}, 395: 1, -70001: size}
abbrev pub claims_item : List ℕ → Item
claims_item name = map_item ((uint_item 1, text_item name) ∷ [])

abbrev pub protected_entries : List ℕ → List ℕ → ℕ → List (Item × Item)
protected_entries name kid size =
    (uint_item 1, nint_item 45) ∷ (uint_item 4, bytes_item kid) ∷ (uint_item 15, claims_item name) ∷ (uint_item 395, uint_item 1) ∷ (nint_item 70000, uint_item size) ∷ []

abbrev pub protected_item : List ℕ → List ℕ → ℕ → Item
protected_item name kid size = map_item (protected_entries name kid size)

abbrev pub hashes_item : List (List ℕ) → Item
hashes_item hashes = array_item (map bytes_item hashes)

abbrev pub led_item : ℕ → ℕ → List (List ℕ) → Item
led_item first second path = array_item (uint_item first ∷ uint_item second ∷ hashes_item path ∷ [])

-- a byte string that holds an item's strict bytes
abbrev pub held_item : Item → Item
held_item item = bytes_item (strict_text item)

abbrev pub proofs_item : ℕ → Item → Item
proofs_item kind proof = map_item ((nint_item kind, array_item (held_item proof ∷ [])) ∷ [])

-- what a proof's string holds
abbrev pub proof_inner : Proof → Item
proof_inner (Inclusion size index path at rule) = led_item size index path
proof_inner (Consistency old size path) = led_item old size path

-- [registered_at, rule]
abbrev pub registration_item : ℕ → ℕ → Item
registration_item at rule = array_item (uint_item at ∷ uint_item rule ∷ [])

-- the entries of the unprotected map
abbrev pub proof_entries : Proof → List (Item × Item)
proof_entries (Inclusion size index path at rule) =
    (uint_item 396, proofs_item 0 (led_item size index path)) ∷ (nint_item 70001, registration_item at rule) ∷ []
proof_entries (Consistency old size path) = (uint_item 396, proofs_item 1 (led_item old size path)) ∷ []

abbrev pub unprotected_item : Proof → Item
unprotected_item proof = map_item (proof_entries proof)

-- the item that a receipt is written as
abbrev pub receipt_parts : Receipt → List Item
receipt_parts r = held_item (protected_item r.name r.kid r.size) ∷ unprotected_item r.proof ∷ nil_item ∷ bytes_item r.signature ∷ []

abbrev pub receipt_item : Receipt → Item
receipt_item r = tag_item 18 (array_item (receipt_parts r))
