-- A receipt that was read has a name of 1 to 128 bytes.
use Rattle.std.proofs.Common.{◌≡◌, ℕ, ◌≤◌, Bool, true, false, ◌&&◌, List, [], ◌∷◌, length, Option, Some, None, Ok, refl, ap, subst}
use Rattle.std.specs.Prelude.{nat_le, option_and_then, if◌then◌else◌}
use Rattle.std.proofs.lemmas.Bool.{and_parts, leb-true}
use Rattle.cbor_core.specs.declared.tree.Item.{Item}
use Rattle.cbor_core.specs.Decoding.{strict_item}
use Rattle.cbor_core.specs.Items.{bytes_in, text_in, map_in, is_uint, is_nil}
use Rattle.receipts.specs.declared.receipt.Receipt.{Receipt}
use Rattle.receipts.specs.declared.receipt.Named.{Named}
use Rattle.receipts.specs.declared.receipt.Proof.{Proof}
use Rattle.receipts.specs.declared.receipt.ReceiptStop.TheVariants.{NotReceipt, BadProtected, BadProof}
use Rattle.receipts.specs.Steps.{and_then, or_stop}
use Rattle.receipts.specs.Form.{number_to, hash_in, name_in, alone, has_keys, named, protected_pairs, protected_in, proof_in, made_of, tagged_items, receipt_with, receipt_outer, receipt_by, receipt_in}
use Rattle.relying_party.proofs.Found.{found, passed}

abbrev IsName : List ℕ → Type 0
IsName name = (1 ≤ length name) × (length name ≤ 128)

name_is : (item : Item) (name : List ℕ) → name_in item ≡ Some name → IsName name
name_is item name e =
    let f = found (λ s. if nat_le 1 (length s) && nat_le (length s) 128 then Some s else None) (text_in item) name e in
    let p = passed (nat_le 1 (length f.from) && nat_le (length f.from) 128) (Some f.from) name f.gives in
    let both = and_parts (nat_le 1 (length f.from)) (nat_le (length f.from) 128) p.passes in
    let same : f.from ≡ name = let is = p.is in cc in
    subst IsName same (leb-true 1 (length f.from) both.0, leb-true (length f.from) 128 both.1)

named_is : (name kid : Option (List ℕ)) (size : Option ℕ) (n : Named) → named name kid size ≡ Some n → name ≡ Some n.name
named_is None kid size n e = cc
named_is (Some name) None size n e = cc
named_is (Some name) (Some kid) None n e = cc
named_is (Some name) (Some kid) (Some size) n e = ap (λ (x : Named). Some x.name) (let same : record { name = name; kid = kid; size = size } ≡ n = cc in same)

pairs_are : (pairs : List (Item × Item)) (n : Named) → protected_pairs pairs ≡ Some n → IsName n.name
pairs_are [] n e = cc
pairs_are (a ∷ []) n e = cc
pairs_are (a ∷ b ∷ []) n e = cc
pairs_are (a ∷ b ∷ c ∷ []) n e = cc
pairs_are (a ∷ b ∷ c ∷ d ∷ []) n e = cc
pairs_are (alg ∷ kid ∷ claims ∷ structure ∷ size ∷ []) n e =
    let held = option_and_then (alone (is_uint 1)) (map_in claims.1) in
    let name = option_and_then name_in held in
    let p = passed (has_keys alg kid claims structure size) (named name (hash_in kid.1) (number_to 4294967295 size.1)) n e in
    let f = found name_in held n.name (named_is name (hash_in kid.1) (number_to 4294967295 size.1) n p.is) in
    name_is f.from n.name f.gives
pairs_are (a ∷ b ∷ c ∷ d ∷ x ∷ y ∷ more) n e = cc

protected_is : (string : List ℕ) (n : Named) → protected_in string ≡ Some n → IsName n.name
protected_is string n e =
    let f = found (λ item. option_and_then protected_pairs (map_in item)) (strict_item string) n e in
    let g = found protected_pairs (map_in f.from) n f.gives in
    pairs_are g.from n g.gives

with_is : (p : List ℕ) (u : List (Item × Item)) (s : List ℕ) (r : Receipt) → receipt_with p u s ≡ Ok r → IsName r.name
with_is p u s r e = go (protected_in p) (proof_in u) refl e
  where
    go : (n : Option Named) (proof : Option Proof) → protected_in p ≡ n → and_then (or_stop BadProtected n) (λ n. and_then (or_stop BadProof proof) (λ proof. Ok (made_of n proof s))) ≡ Ok r → IsName r.name
    go None proof is e = cc
    go (Some n) None is e = cc
    go (Some n) (Some proof) is e =
        let same : made_of n proof s ≡ r = cc in
        subst (λ (x : Receipt). IsName x.name) same (protected_is p n is)

outer_is : (p : Option (List ℕ)) (u : Option (List (Item × Item))) (c : Bool) (s : Option (List ℕ)) (r : Receipt) → receipt_outer p u c s ≡ Ok r → IsName r.name
outer_is None u c s r e = cc
outer_is (Some p) None c s r e = cc
outer_is (Some p) (Some u) false s r e = cc
outer_is (Some p) (Some u) true None r e = cc
outer_is (Some p) (Some u) true (Some s) r e = with_is p u s r e

by_is : (items : List Item) (r : Receipt) → receipt_by items ≡ Ok r → IsName r.name
by_is [] r e = cc
by_is (a ∷ []) r e = cc
by_is (a ∷ b ∷ []) r e = cc
by_is (a ∷ b ∷ c ∷ []) r e = cc
by_is (p ∷ u ∷ c ∷ s ∷ []) r e = outer_is (bytes_in p) (map_in u) (is_nil c) (bytes_in s) r e
by_is (a ∷ b ∷ c ∷ d ∷ x ∷ more) r e = cc

pub receipt_has_name : (item : Item) (r : Receipt) → receipt_in item ≡ Ok r → IsName r.name
unfolding receipt_in
receipt_has_name item r e = go (tagged_items item) e
  where
    go : (o : Option (List Item)) → and_then (or_stop NotReceipt o) receipt_by ≡ Ok r → IsName r.name
    go None e = cc
    go (Some items) e = by_is items r e
