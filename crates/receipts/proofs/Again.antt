-- What a receipt within the limits is written as is read as that receipt.
use Rattle.std.proofs.Common.{◌≡◌, ℕ, ◌≤◌, Bool, true, ◌&&◌, List, [], ◌∷◌, ◌++◌, length, map, refl, sym, ap, ◌∙◌, nat_le}
use Rattle.std.specs.Prelude.{◌==◌, Option, Some, None, option_map, option_and_then, Result, Ok, if◌then◌else◌}
use Rattle.std.proofs.lemmas.Bool.{eq-eqb, le-leb, and_from}
use Rattle.std.proofs.lemmas.List.{append-nil, append_assoc, length-map}
use Rattle.cbor_core.specs.declared.tree.Item.{Item}
use Rattle.cbor_core.specs.declared.tree.Node.TheVariants.{outs-Uint, outs-Nint, outs-Bytes, outs-Text, outs-Array, outs-Map, outs-Tag, outs-Simple}
use Rattle.cbor_core.specs.Decoding.{strict_item}
use Rattle.cbor_core.specs.Exact.{strict_text}
use Rattle.cbor_core.specs.Items.{uint_at, nint_at, bytes_at, text_at, array_at, map_at, tag_at, simple_at, uint_in, bytes_in, text_in, array_in, map_in, tag_in, is_number, is_uint, is_nint, is_nil, uint_item, nint_item, bytes_item, text_item, array_item, map_item, tag_item, nil_item}
use Rattle.receipts.specs.declared.receipt.ReceiptStop.{ReceiptStop}
use Rattle.receipts.specs.declared.receipt.ReceiptStop.TheVariants.{NotReceipt, BadProtected, BadProof}
use Rattle.receipts.specs.declared.receipt.Named.{Named}
use Rattle.receipts.specs.declared.receipt.Led.{Led}
use Rattle.receipts.specs.declared.receipt.Proof.{Proof}
use Rattle.receipts.specs.declared.receipt.Proof.TheVariants.{Inclusion, Consistency}
use Rattle.receipts.specs.declared.receipt.Receipt.{Receipt}
use Rattle.receipts.specs.Steps.{and_then, or_stop}
use Rattle.receipts.specs.Form.{number_to, hash_in, name_in, alone, has_keys, named, protected_pairs, protected_in, only, proof_item, hashes_onto, path_in, led, led_by, led_in, registered, inclusion, consistency, proof_in, items_under, made_of, receipt_with, receipt_outer, receipt_by, receipt_in}
use Rattle.receipts.specs.Written.{claims_item, protected_entries, protected_item, hashes_item, led_item, held_item, proofs_item, proof_inner, proof_entries, unprotected_item, receipt_parts, receipt_item}
use Rattle.receipts.specs.Fits.{AreHashes, IsPath, ProofFits, Fits}

-- an item has strict bytes, which spell it
abbrev pub IsHeld : Item → Type 0
IsHeld item = strict_item (strict_text item) ≡ Some item

uint_reads : (n : ℕ) → uint_in (uint_item n) ≡ Some n
uint_reads n = ap uint_at (outs-Uint n)

bytes_reads : (s : List ℕ) → bytes_in (bytes_item s) ≡ Some s
bytes_reads s = ap bytes_at (outs-Bytes s)

text_reads : (s : List ℕ) → text_in (text_item s) ≡ Some s
text_reads s = ap text_at (outs-Text s)

items_reads : (items : List Item) → array_in (array_item items) ≡ Some items
items_reads items = ap array_at (outs-Array items)

pairs_reads : (pairs : List (Item × Item)) → map_in (map_item pairs) ≡ Some pairs
pairs_reads pairs = ap map_at (outs-Map pairs)

tag_reads : (n : ℕ) (item : Item) → tag_in (tag_item n item) ≡ Some (n, item)
tag_reads n item = ap tag_at (outs-Tag n item)

is_uint_reads : (n : ℕ) → is_uint n (uint_item n) ≡ true
is_uint_reads n = ap (is_number n) (uint_reads n) ∙ eq-eqb n n refl

is_nint_reads : (n : ℕ) → is_nint n (nint_item n) ≡ true
is_nint_reads n = ap (λ l. is_number n (nint_at l)) (outs-Nint n) ∙ eq-eqb n n refl

number_reads : (high n : ℕ) → n ≤ high → number_to high (uint_item n) ≡ Some n
number_reads high n low = ap (option_and_then (λ m. if nat_le m high then Some m else None)) (uint_reads n) ∙ ap (λ b. if b then Some n else None) (le-leb n high low)

hash_reads : (h : List ℕ) → length h ≡ 32 → hash_in (bytes_item h) ≡ Some h
hash_reads h len = ap (option_and_then (λ s. if length s == 32 then Some s else None)) (bytes_reads h) ∙ ap (λ b. if b then Some h else None) (eq-eqb (length h) 32 len)

name_reads : (name : List ℕ) → 1 ≤ length name → length name ≤ 128 → name_in (text_item name) ≡ Some name
name_reads name some most =
    ap (λ o. option_and_then (λ s. if nat_le 1 (length s) && nat_le (length s) 128 then Some s else None) o) (text_reads name)
    ∙ ap (λ b. if b then Some name else None) (and_from _ _ (le-leb 1 (length name) some) (le-leb (length name) 128 most))

hashes_read : (front hs : List (List ℕ)) → AreHashes hs → hashes_onto front (map bytes_item hs) ≡ Some (front ++ hs)
hashes_read front [] are = ap Some (sym (append-nil front))
hashes_read front (h ∷ hs) are =
    ap (option_and_then (λ x. hashes_onto (front ++ x ∷ []) (map bytes_item hs))) (hash_reads h are.0)
    ∙ hashes_read (front ++ h ∷ []) hs are.1 ∙ ap Some (append_assoc front (h ∷ []) hs)

path_reads : (path : List (List ℕ)) → length path ≤ 32 → AreHashes path → path_in (hashes_item path) ≡ Some path
path_reads path few are =
    ap (option_and_then (λ items. if nat_le (length items) 32 then hashes_onto [] items else None)) (items_reads (map bytes_item path))
    ∙ ap (λ n. if nat_le n 32 then hashes_onto [] (map bytes_item path) else None) (length-map path bytes_item)
    ∙ ap (λ b. if b then hashes_onto [] (map bytes_item path) else None) (le-leb (length path) 32 few)
    ∙ hashes_read [] path are

led_all : (a b : Option ℕ) (p : Option (List (List ℕ))) (x y : ℕ) (path : List (List ℕ)) → a ≡ Some x → b ≡ Some y → p ≡ Some path → led a b p ≡ Some (record { first = x; second = y; path = path })
led_all a b p x y path e f g = ap (λ a. led a b p) e ∙ ap (λ b. led (Some x) b p) f ∙ ap (λ p. led (Some x) (Some y) p) g

led_reads : (x y : ℕ) (path : List (List ℕ)) → x ≤ 4294967295 → y ≤ 4294967295 → length path ≤ 32 → AreHashes path → led_in (led_item x y path) ≡ Some (record { first = x; second = y; path = path })
led_reads x y path low high few are =
    ap (option_and_then led_by) (items_reads (uint_item x ∷ uint_item y ∷ hashes_item path ∷ []))
    ∙ led_all _ _ _ x y path (number_reads 4294967295 x low) (number_reads 4294967295 y high) (path_reads path few are)

-- the inner string of a proof
proof_reads : (kind : ℕ) (inner : Item) → strict_item (strict_text inner) ≡ Some inner → proof_item (is_nint kind) (proofs_item kind inner) ≡ Some inner
proof_reads kind inner strict =
    ap (λ o. option_and_then strict_item (option_and_then (λ array. option_and_then (λ item. bytes_in item) (option_and_then only (array_in array))) (option_and_then (alone (is_nint kind)) o)))
    (pairs_reads ((nint_item kind, array_item (held_item inner ∷ [])) ∷ []))
    ∙ ap (λ b. option_and_then strict_item (option_and_then (λ array. option_and_then (λ item. bytes_in item) (option_and_then only (array_in array))) (if b then Some (array_item (held_item inner ∷ [])) else None))) (is_nint_reads kind)
    ∙ ap (λ o. option_and_then strict_item (option_and_then (λ item. bytes_in item) (option_and_then only o))) (items_reads (held_item inner ∷ []))
    ∙ ap (option_and_then strict_item) (bytes_reads (strict_text inner))
    ∙ strict

-- the name beside the number 1
claim_reads : (name : List ℕ) → 1 ≤ length name → length name ≤ 128
    → option_and_then name_in (option_and_then (alone (is_uint 1)) (map_in (claims_item name))) ≡ Some name
claim_reads name some most =
    ap (λ o. option_and_then name_in (option_and_then (alone (is_uint 1)) o)) (pairs_reads ((uint_item 1, text_item name) ∷ []))
    ∙ ap (λ b. option_and_then name_in (if b then Some (text_item name) else None)) (is_uint_reads 1)
    ∙ name_reads name some most

named_all : (n k : Option (List ℕ)) (s : Option ℕ) (name kid : List ℕ) (size : ℕ) → n ≡ Some name → k ≡ Some kid → s ≡ Some size → named n k s ≡ Some (record { name = name; kid = kid; size = size })
named_all n k s name kid size e f g = ap (λ n. named n k s) e ∙ ap (λ k. named (Some name) k s) f ∙ ap (λ s. named (Some name) (Some kid) s) g

keys_read : (kid claims size : Item)
    → has_keys (uint_item 1, nint_item 45) (uint_item 4, kid) (uint_item 15, claims) (uint_item 395, uint_item 1) (nint_item 70000, size) ≡ true
keys_read kid claims size =
    and_from _ _ (is_uint_reads 1) (and_from _ _ (is_nint_reads 45) (and_from _ _ (is_uint_reads 4) (and_from _ _ (is_uint_reads 15)
    (and_from _ _ (is_uint_reads 395) (and_from _ _ (is_uint_reads 1) (is_nint_reads 70000))))))

protected_reads : (name kid : List ℕ) (size : ℕ) → 1 ≤ length name → length name ≤ 128 → length kid ≡ 32 → size ≤ 4294967295 → IsHeld (protected_item name kid size)
    → protected_in (strict_text (protected_item name kid size)) ≡ Some (record { name = name; kid = kid; size = size })
protected_reads name kid size some most len low spelled =
    let claims : Item = claims_item name in
    let all : List (Item × Item) = protected_entries name kid size in
    ap (option_and_then (λ item. option_and_then protected_pairs (map_in item))) spelled
    ∙ ap (option_and_then protected_pairs) (pairs_reads all)
    ∙ ap (λ b. if b then named (option_and_then name_in (option_and_then (alone (is_uint 1)) (map_in claims))) (hash_in (bytes_item kid)) (number_to 4294967295 (uint_item size)) else None) (keys_read (bytes_item kid) claims (uint_item size))
    ∙ named_all _ _ _ name kid size (claim_reads name some most) (hash_reads kid len) (number_reads 4294967295 size low)

led_of_reads : (kind x y : ℕ) (path : List (List ℕ)) → x ≤ 4294967295 → y ≤ 4294967295 → IsPath path → IsHeld (led_item x y path)
    → option_and_then led_in (proof_item (is_nint kind) (proofs_item kind (led_item x y path))) ≡ Some (record { first = x; second = y; path = path })
led_of_reads kind x y path low high is spelled = ap (option_and_then led_in) (proof_reads kind (led_item x y path) spelled) ∙ led_reads x y path low high is.0 is.1

registered_reads : (at rule : ℕ) → rule ≤ 65535 → option_and_then registered (array_in (array_item (uint_item at ∷ uint_item rule ∷ []))) ≡ Some (at, rule)
registered_reads at rule low =
    ap (option_and_then registered) (items_reads (uint_item at ∷ uint_item rule ∷ []))
    ∙ ap (option_and_then (λ a. option_map (λ r. (a, r)) (number_to 65535 (uint_item rule)))) (uint_reads at)
    ∙ ap (option_map (λ r. (at, r))) (number_reads 65535 rule low)

map_reads : (proof : Proof) → map_in (unprotected_item proof) ≡ Some (proof_entries proof)
map_reads (Inclusion size index path at rule) = pairs_reads (proof_entries (Inclusion size index path at rule))
map_reads (Consistency old size path) = pairs_reads (proof_entries (Consistency old size path))

proof_in_reads : (proof : Proof) → ProofFits proof → IsHeld (proof_inner proof) → proof_in (proof_entries proof) ≡ Some proof
proof_in_reads (Inclusion size index path at rule) fits spelled =
    let proofs : Item = proofs_item 0 (led_item size index path) in
    let registration : Item = array_item (uint_item at ∷ uint_item rule ∷ []) in
    ap (λ b. if b then inclusion proofs registration else None) (and_from _ _ (is_uint_reads 396) (is_nint_reads 70001))
    ∙ ap (option_and_then (λ (l : Led). option_map (λ (a : ℕ × ℕ). Inclusion l.first l.second l.path a.0 a.1) (option_and_then registered (array_in registration)))) (led_of_reads 0 size index path fits.0 fits.1 fits.2 spelled)
    ∙ ap (option_map (λ (a : ℕ × ℕ). Inclusion size index path a.0 a.1)) (registered_reads at rule fits.3)
proof_in_reads (Consistency old size path) fits spelled =
    ap (λ b. if b then consistency (proofs_item 1 (led_item old size path)) else None) (is_uint_reads 396)
    ∙ ap (option_map (λ (l : Led). Consistency l.first l.second l.path)) (led_of_reads 1 old size path fits.0 fits.1 fits.2 spelled)

outer_all : (p : Option (List ℕ)) (u : Option (List (Item × Item))) (c : Bool) (s : Option (List ℕ)) (pp : List ℕ) (uu : List (Item × Item)) (ss : List ℕ)
    → p ≡ Some pp → u ≡ Some uu → c ≡ true → s ≡ Some ss → receipt_outer p u c s ≡ receipt_with pp uu ss
outer_all p u c s pp uu ss e f g h =
    ap (λ p. receipt_outer p u c s) e ∙ ap (λ u. receipt_outer (Some pp) u c s) f ∙ ap (λ c. receipt_outer (Some pp) (Some uu) c s) g ∙ ap (λ s. receipt_outer (Some pp) (Some uu) true s) h

nil_reads : is_nil nil_item ≡ true
nil_reads = ap (λ l. is_number 22 (simple_at l)) (outs-Simple 22)

pub receipt_reads : (r : Receipt) → Fits r → IsHeld (protected_item r.name r.kid r.size) → IsHeld (proof_inner r.proof) → receipt_in (receipt_item r) ≡ Ok r
unfolding receipt_in
receipt_reads r fits outer inner =
    let protected : List ℕ = strict_text (protected_item r.name r.kid r.size) in
    let parts : List Item = receipt_parts r in
    let said : Named = record { name = r.name; kid = r.kid; size = r.size } in
    ap (λ o. and_then (or_stop NotReceipt (option_and_then items_under o)) receipt_by) (tag_reads 18 (array_item parts))
    ∙ ap (λ o. and_then (or_stop NotReceipt o) receipt_by) (items_reads parts)
    ∙ outer_all _ _ _ _ protected (proof_entries r.proof) r.signature (bytes_reads protected) (map_reads r.proof) nil_reads (bytes_reads r.signature)
    ∙ ap (λ o. and_then (or_stop BadProtected o) (λ n. and_then (or_stop BadProof (proof_in (proof_entries r.proof))) (λ proof. let x : Result Receipt ReceiptStop = Ok (made_of n proof r.signature) in x)))
    (protected_reads r.name r.kid r.size fits.0.some fits.0.most fits.0.digest fits.0.number outer)
    ∙ ap (λ o. and_then (or_stop BadProof o) (λ proof. let x : Result Receipt ReceiptStop = Ok (made_of said proof r.signature) in x)) (proof_in_reads r.proof fits.1 inner)
