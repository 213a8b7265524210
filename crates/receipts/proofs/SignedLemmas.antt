-- The bytes of a receipt's protected string are its strict spelling.
use Rattle.std.proofs.Common.{◌≡◌, ℕ, suc, ◌+◌, ◌≤◌, ◌<◌, ◌^◌, Bool, true, cond, ◌&&◌, List, [], ◌∷◌, ◌++◌, length, take, Option, Some, None, refl, ap, ◌∙◌, lt-ltb, le-ltb, le-leb, arith, length-append, append_assoc}
use Rattle.std.specs.Prelude.{nat_le, option_and_then}
use Rattle.std.specs.Str.{is_utf8}
use Rattle.std.proofs.lemmas.Bool.{and_from}
use Rattle.std.proofs.lemmas.List.{append-nil}
use Rattle.cbor_core.specs.declared.heads.Size.{Size}
use Rattle.cbor_core.specs.declared.heads.Size.TheVariants.{Within, One, Two, Four, Eight}
use Rattle.cbor_core.specs.declared.words.Grammar.TheVariants.{Strict}
use Rattle.cbor_core.specs.declared.tree.Item.{Item}
use Rattle.cbor_core.specs.declared.tree.Node.TheVariants.{outs-Map}
use Rattle.cbor_core.specs.Bytes.{is_below}
use Rattle.cbor_core.specs.Limits.{longest_string, most_parts}
use Rattle.cbor_core.specs.Head.{head}
use Rattle.cbor_core.specs.Tree.{Layer}
use Rattle.cbor_core.specs.Encoding.{size_of, head_size, both, Writer, may_follow, spell_each, spell_pairs, spell_layer, spell_in, text_or}
use Rattle.cbor_core.specs.Exact.{strict_text}
use Rattle.cbor_core.specs.Fitting.{UintText, NintText, BytesText, TextText}
use Rattle.cbor_core.specs.Items.{uint_item, nint_item, bytes_item, text_item, map_item}
use Rattle.cbor_core.specs.Writes.{Writes}
use Rattle.cose_sign1.specs.Strings.{head_len, string_len}
use Rattle.cose_sign1.specs.Tbs.{signed_of, tbs_len}
use Rattle.receipts.specs.Written.{claims_item, protected_entries, protected_item}
use Rattle.receipts.specs.Fits.{NameFits}
use Rattle.receipts.specs.Signed.{signed_len, protected_text, protected_len}

-- ---- texts written one behind the other

pub Writes-then : {s t : List ℕ} {at m e : ℕ} {a b c : List ℕ} → Writes s at a b m → Writes t m b c e → Writes (s ++ t) at a c e
Writes-then {s} {t} {at} {m} {e} {a} {b} {c} first next = record {
  place = omega (arith, first.place, next.place, length-append s t);
  bytes = next.bytes ∙ ap (λ x. x ++ t) first.bytes ∙ append_assoc (take at a) s t;
}

pub head-length : (major : ℕ) (size : Size) (n : ℕ) → length (head major size n) ≡ head_size size
head-length major Within n = refl
head-length major One n = refl
head-length major Two n = refl
head-length major Four n = refl
head-length major Eight n = refl

pub size_small : (s : Size) → head_size s ≤ 9
size_small Within = omega arith
size_small One = omega arith
size_small Two = omega arith
size_small Four = omega arith
size_small Eight = omega arith

-- ---- the spelling of a map, pair by pair

abbrev Pair : Type 0
Pair = Item × Item

module _ (part : Writer) where
  behind : List ℕ → Pair → List Pair → List ℕ → Option (List ℕ)
  behind last pair pairs key = cond (may_follow Strict last key) (both (Some key) (both (part pair.1) (spell_pairs Strict part key pairs))) None

  pairs_step : (last key value rest : List ℕ) (pair : Pair) (pairs : List Pair) → part pair.0 ≡ Some key → is_below last key ≡ true → part pair.1 ≡ Some value → spell_pairs Strict part key pairs ≡ Some rest
      → spell_pairs Strict part last (pair ∷ pairs) ≡ Some (key ++ (value ++ rest))
  unfolding spell_pairs behind
  pairs_step last key value rest pair pairs k above v more =
      ap (λ (o : Option (List ℕ)). option_and_then (behind last pair pairs) o) k
      ∙ ap (λ (b : Bool). cond b (both (Some key) (both (part pair.1) (spell_pairs Strict part key pairs))) None) above
      ∙ (λ i. both (Some key) (both (v i) (more i)))

  no_pairs : (last : List ℕ) → spell_pairs Strict part last [] ≡ Some []
  unfolding spell_pairs
  no_pairs last = refl

map_text : (room : ℕ) (pairs : List Pair) (rest : List ℕ) → nat_le (length pairs) most_parts ≡ true → spell_pairs Strict (spell_in Strict room) [] pairs ≡ Some rest
    → spell_in Strict (suc room) (map_item pairs) ≡ Some (head 5 (size_of (length pairs)) (length pairs) ++ rest)
unfolding spell_in spell_each
map_text room pairs rest few e =
    let text = head 5 (size_of (length pairs)) (length pairs) in
    let whole : Option (List ℕ) = both (Some text) (both (Some []) (both (Some []) (spell_pairs Strict (spell_in Strict room) [] pairs))) in
    ap (λ (l : Layer). spell_layer Strict (suc room) (spell_in Strict room) l) (outs-Map pairs)
    ∙ ap (λ (b : Bool). cond (b && nat_le (length pairs) most_parts) whole None) (lt-ltb 0 (suc room) (omega arith))
    ∙ ap (λ (b : Bool). cond b whole None) few
    ∙ ap (λ (o : Option (List ℕ)). both (Some text) (both (Some []) (both (Some []) o))) e

-- ---- the protected map

module _ (uint : UintText) (nint : NintText) (bytes : BytesText) (text : TextText) where
  name_text : (room : ℕ) (name : List ℕ) → length name ≤ 128 → is_utf8 name ≡ true → spell_in Strict room (text_item name) ≡ Some (head 3 (size_of (length name)) (length name) ++ name)
  name_text room name few utf8 =
      text room name ∙ ap (λ (b : Bool). cond b (Some (head 3 (size_of (length name)) (length name) ++ name)) None) (and_from (nat_le (length name) longest_string) (is_utf8 name) (le-leb (length name) longest_string (omega arith)) utf8)

  kid_text : (room : ℕ) (kid : List ℕ) → length kid ≡ 32 → spell_in Strict room (bytes_item kid) ≡ Some (88 ∷ 32 ∷ kid)
  kid_text room kid len =
      bytes room kid ∙ ap (λ (b : Bool). cond b (Some (head 2 (size_of (length kid)) (length kid) ++ kid)) None) (le-leb (length kid) longest_string (omega (arith, len)))
      ∙ ap (λ (n : ℕ). Some (head 2 (size_of n) n ++ kid)) len

  number_text : (room n : ℕ) → n ≤ 4294967295 → spell_in Strict room (uint_item n) ≡ Some (head 0 (size_of n) n)
  number_text room n low = uint room n ∙ ap (λ (b : Bool). cond b (Some (head 0 (size_of n) n)) None) (lt-ltb n (2 ^ 64) (omega arith))

  claims_text : (name : List ℕ) → length name ≤ 128 → is_utf8 name ≡ true → spell_in Strict 15 (claims_item name) ≡ Some (161 ∷ 1 ∷ ((head 3 (size_of (length name)) (length name) ++ name) ++ []))
  unfolding is_below
  claims_text name few utf8 =
      let part = spell_in Strict 14 in
      map_text 14 ((uint_item 1, text_item name) ∷ []) ((1 ∷ []) ++ ((head 3 (size_of (length name)) (length name) ++ name) ++ [])) refl
      (pairs_step part [] (1 ∷ []) (head 3 (size_of (length name)) (length name) ++ name) [] (uint_item 1, text_item name) [] (uint 14 1) refl (name_text 14 name few utf8) (no_pairs part (1 ∷ [])))

  entries_text : (name kid : List ℕ) (size : ℕ) → NameFits name kid size
      → spell_pairs Strict (spell_in Strict 15) [] (protected_entries name kid size)
      ≡ Some (1 ∷ 56 ∷ 45 ∷ 4 ∷ 88 ∷ 32 ∷ (kid ++ (15 ∷ 161 ∷ 1 ∷ (((head 3 (size_of (length name)) (length name) ++ name) ++ []) ++ (25 ∷ 1 ∷ 139 ∷ 1 ∷ 58 ∷ 0 ∷ 1 ∷ 17 ∷ 112 ∷ (head 0 (size_of size) size ++ []))))))
  unfolding is_below
  entries_text name kid size fits =
      let part = spell_in Strict 15 in
      let number = head 0 (size_of size) size in
      let claims : List ℕ = 161 ∷ 1 ∷ ((head 3 (size_of (length name)) (length name) ++ name) ++ []) in
      let five = pairs_step part (25 ∷ 1 ∷ 139 ∷ []) (58 ∷ 0 ∷ 1 ∷ 17 ∷ 112 ∷ []) number [] (nint_item 70000, uint_item size) [] (nint 15 70000) refl (number_text 15 size fits.number) (no_pairs part (58 ∷ 0 ∷ 1 ∷ 17 ∷ 112 ∷ [])) in
      let four = pairs_step part (15 ∷ []) (25 ∷ 1 ∷ 139 ∷ []) (1 ∷ []) _ (uint_item 395, uint_item 1) _ (uint 15 395) refl (uint 15 1) five in
      let three = pairs_step part (4 ∷ []) (15 ∷ []) claims _ (uint_item 15, claims_item name) _ (uint 15 15) refl (claims_text name fits.most fits.utf8) four in
      let two = pairs_step part (1 ∷ []) (4 ∷ []) (88 ∷ 32 ∷ kid) _ (uint_item 4, bytes_item kid) _ (uint 15 4) refl (kid_text 15 kid fits.digest) three in
      pairs_step part [] (1 ∷ []) (56 ∷ 45 ∷ []) _ (uint_item 1, nint_item 45) _ (uint 15 1) refl (nint 15 45) two

  same_bytes : (kid front name number : List ℕ) → 165 ∷ 1 ∷ 56 ∷ 45 ∷ 4 ∷ 88 ∷ 32 ∷ (kid ++ (15 ∷ 161 ∷ 1 ∷ (((front ++ name) ++ []) ++ (25 ∷ 1 ∷ 139 ∷ 1 ∷ 58 ∷ 0 ∷ 1 ∷ 17 ∷ 112 ∷ (number ++ [])))))
      ≡ (165 ∷ 1 ∷ 56 ∷ 45 ∷ 4 ∷ 88 ∷ 32 ∷ []) ++ (kid ++ ((15 ∷ 161 ∷ 1 ∷ []) ++ (front ++ (name ++ ((25 ∷ 1 ∷ 139 ∷ 1 ∷ 58 ∷ 0 ∷ 1 ∷ 17 ∷ 112 ∷ []) ++ number)))))
  same_bytes kid front name number =
      ap (λ (x : List ℕ). 165 ∷ 1 ∷ 56 ∷ 45 ∷ 4 ∷ 88 ∷ 32 ∷ (kid ++ (15 ∷ 161 ∷ 1 ∷ x))) (
      ap (λ (t : List ℕ). t ++ (25 ∷ 1 ∷ 139 ∷ 1 ∷ 58 ∷ 0 ∷ 1 ∷ 17 ∷ 112 ∷ (number ++ []))) (append-nil (front ++ name))
      ∙ append_assoc front name (25 ∷ 1 ∷ 139 ∷ 1 ∷ 58 ∷ 0 ∷ 1 ∷ 17 ∷ 112 ∷ (number ++ []))
      ∙ ap (λ (t : List ℕ). front ++ (name ++ (25 ∷ 1 ∷ 139 ∷ 1 ∷ 58 ∷ 0 ∷ 1 ∷ 17 ∷ 112 ∷ t))) (append-nil number))

  pub protected_is_text : (name kid : List ℕ) (size : ℕ) → NameFits name kid size → strict_text (protected_item name kid size) ≡ protected_text name kid size
  protected_is_text name kid size fits =
      ap (λ (o : Option (List ℕ)). text_or o) (map_text 15 (protected_entries name kid size) _ refl (entries_text name kid size fits))
      ∙ same_bytes kid (head 3 (size_of (length name)) (length name)) name (head 0 (size_of size) size)

pub protected_length : (name kid : List ℕ) (size : ℕ) → length kid ≡ 32 → length (protected_text name kid size) ≡ protected_len (length name) size
protected_length name kid size len =
    let number = head 0 (size_of size) size in
    let front = head 3 (size_of (length name)) (length name) in
    let end : List ℕ = (25 ∷ 1 ∷ 139 ∷ 1 ∷ 58 ∷ 0 ∷ 1 ∷ 17 ∷ 112 ∷ []) ++ number in
    omega (
      arith,
      length-append kid ((15 ∷ 161 ∷ 1 ∷ []) ++ (front ++ (name ++ end))),
      length-append front (name ++ end),
      length-append name end,
      head-length 3 (size_of (length name)) (length name),
      head-length 0 (size_of size) size,
      len,
    )

-- ---- the signed text's length

-- a map of five entries is no empty one
signed_own : (name kid : List ℕ) (size : ℕ) → signed_of (protected_text name kid size) ≡ protected_text name kid size
unfolding signed_of
signed_own name kid size = refl

head_two : (m : ℕ) → 24 ≤ m → m < 2 ^ 8 → head_len m ≡ 2
unfolding head_len
head_two m low high = rw (le-ltb m 24 low, lt-ltb m (2 ^ 8) high) refl

pub signed_length : (name kid : List ℕ) (size : ℕ) (root : List ℕ) → NameFits name kid size → length root ≡ 32 → tbs_len (protected_text name kid size) root ≡ signed_len (length name) size
signed_length name kid size root fits len =
    let m = length (protected_text name kid size) in
    let own = protected_length name kid size fits.digest in
    let few = fits.most in
    let a = size_small (size_of (length name)) in
    let b = size_small (size_of size) in
    let two = head_two m (omega arith) (omega arith) in
    let root_two = ap head_len len ∙ head_two 32 (omega arith) (omega arith) in
    let string : string_len (length (signed_of (protected_text name kid size))) ≡ 2 + m = ap (λ (s : List ℕ). string_len (length s)) (signed_own name kid size) ∙ ap (λ (n : ℕ). n + m) two in
    let payload : string_len (length root) ≡ 34 = omega (arith, root_two, len) in
    omega (arith, string, payload, own)

pub protected_few : (name kid : List ℕ) (size : ℕ) → NameFits name kid size → length (protected_text name kid size) ≤ longest_string
protected_few name kid size fits =
    let own = protected_length name kid size fits.digest in
    let few = fits.most in
    let a = size_small (size_of (length name)) in
    let b = size_small (size_of size) in
    omega arith
