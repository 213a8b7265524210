-- A message with a receipt attached is spelled, and is the same message with other receipts.
use Rattle.std.proofs.Common.{◌≡◌, ℕ, suc, ◌+◌, ◌*◌, ◌≤◌, Bool, true, false, cond, not, ◌&&◌, ◌||◌, List, [], ◌∷◌, ◌++◌, length, Option, Some, None, refl, sym, ap, subst, ◌∙◌, arith, le-leb, eqb-true, length-append}
use Rattle.std.specs.Prelude.{option_and_then}
use Rattle.std.specs.Option.{option_map, is_some}
use Rattle.std.proofs.lemmas.Bool.{and_parts, and_from, or_parts, both_ways, false_from_ne_true}
use Rattle.cbor_core.specs.declared.words.Grammar.TheVariants.{Strict, Wide}
use Rattle.cbor_core.specs.declared.heads.Size.{Size}
use Rattle.cbor_core.specs.declared.heads.Size.TheVariants.{Within, One, Two, Four, Eight}
use Rattle.cbor_core.specs.declared.tree.Item.{Item}
use Rattle.cbor_core.specs.declared.tree.Node.{Node-F, out-Node}
use Rattle.cbor_core.specs.declared.tree.Node.TheVariants.{Array, outs-Uint, outs-Bytes, outs-Array, outs-Map, outs-Tag, outs-Simple}
use Rattle.cbor_core.specs.Bytes.{is_below}
use Rattle.cbor_core.specs.Limits.{longest_string, most_parts}
use Rattle.cbor_core.specs.Tree.{Layer, same, is_key}
use Rattle.cbor_core.specs.Spells.{SpellEach, SpellPairs, SpellsLayer, SpellsIn, Spells}
use Rattle.cbor_core.specs.Encoding.{size_of, head_size, spell_in, most}
use Rattle.cbor_core.specs.Decoding.{SameIsEqual}
use Rattle.cbor_core.specs.Exact.{StrictIsWide}
use Rattle.cbor_core.specs.Items.{uint_item, bytes_item, array_item, map_item, array_at, array_in}
use Rattle.cbor_core.specs.Fitting.{all_items, keys_rise, is_strict_item, len_sum, strict_len, UintFits, BytesFit, ArrayFits, MapFits, TagFits, SimpleFits, UintText, UintLength, BytesLength, ArrayLength, MapLength, TagLength, SimpleLength}
use Rattle.cose_sign1.specs.declared.labels.Label.{Label}
use Rattle.cose_sign1.specs.declared.parts.Parts.{Parts}
use Rattle.cose_sign1.specs.declared.sign1.Sign1.{Sign1}
use Rattle.cose_sign1.specs.declared.stops.Sign1Stop.TheVariants.{BadHeader, BadCrit}
use Rattle.cose_sign1.specs.Labels.{label_in, key_label, is_number_in, key_is, value_at, has_number}
use Rattle.cose_sign1.specs.Kinds.{is_string, all_strings, is_receipts, kind_at, has_kind}
use Rattle.cose_sign1.specs.Parts.{string_in, parts_in}
use Rattle.cose_sign1.specs.Headers.{or_then, first_fault, named, bad_header, dup_label, protected_fault, unprotected_fault, crit_fine, bad_crit, crit_fault, header_fault}
use Rattle.cose_sign1.specs.Message.{payload_item, message_parts, message_item}
use Rattle.cose_sign1.specs.Sign1Of.{message_of, Sign1Of}
use Rattle.cose_sign1.specs.Short.{StringsAreShort}
use Rattle.cose_sign1.specs.Attached.{items_or, receipt_items, attached_entries, attached_item, attached_of, HasRoom}
use Rattle.cose_sign1.proofs.WholeLemmas.{string_is}
use Rattle.cose_sign1.proofs.BareLemmas.{or_none, if_none}
use Rattle.cose_sign1.proofs.ShortLemmas.{unprotected_spelled, string_short}

abbrev Pair : Type 0
Pair = Item × Item

-- ---- headers

-- a key that is the number 394 is a label
label_394 : (k : Layer) → is_number_in 394 k ≡ true → label_in k ≡ None → ⊥
label_394 (Node-F.Uint m) e none = cc
label_394 _ e none = absurd cc

no_label : (o : Option Label) → option_map BadHeader o ≡ None → o ≡ None
no_label None e = refl
no_label (Some x) e = absurd cc

-- where such an entry is fine, its value is of the right kind
named_none : (b : Bool) (key : Item) → named bad_header b key ≡ None → key_is 394 key ≡ true → b ≡ false
named_none false key e is = refl
named_none true key e is = absurd (label_394 (out-Node key.node) is (no_label (key_label key) e))

not_false : (b : Bool) → not b ≡ false → b ≡ true
not_false true e = refl
not_false false e = absurd cc

kind_394 : (k v : Layer) → is_number_in 394 k ≡ true → kind_at k v ≡ true → is_receipts v ≡ true
kind_394 (Node-F.Uint m) v is kind = let n : m ≡ 394 = eqb-true m 394 is in subst (λ (x : ℕ). kind_at (Node-F.Uint x) v ≡ true) n kind
kind_394 _ v is kind = absurd cc

strings_at : (l : Layer) → is_receipts l ≡ true → all_strings (items_or (array_at l)) ≡ true
strings_at (Node-F.Array items) e = e
strings_at _ e = absurd cc

strings_by : (b : Bool) (pair : Pair) (pairs : List Pair) → key_is 394 pair.0 ≡ b → (b ≡ true → all_strings (items_or (array_in pair.1)) ≡ true) → (b ≡ false → all_strings (receipt_items pairs) ≡ true)
    → all_strings (items_or (option_and_then array_in (cond b (Some pair.1) (value_at 394 pairs)))) ≡ true
strings_by true pair pairs e here there = here refl
strings_by false pair pairs e here there = there refl

has_kind_at : (entry : Pair) → has_kind entry ≡ true → kind_at (out-Node entry.0.node) (out-Node entry.1.node) ≡ true
unfolding has_kind
has_kind_at entry e = e

-- the receipts of fine headers are byte strings
strings_of : (protected unprotected : List Pair) → first_fault (unprotected_fault protected) unprotected ≡ None → all_strings (receipt_items unprotected) ≡ true
unfolding first_fault
strings_of protected [] e = refl
strings_of protected (pair ∷ pairs) e =
    let p = or_none (unprotected_fault protected pair) (first_fault (unprotected_fault protected) pairs) e in
    let q = or_none (named dup_label (is_key protected pair.0) pair.0) (named bad_header (not (has_kind pair)) pair.0) p.0 in
    strings_by (key_is 394 pair.0) pair pairs refl
    (λ is. strings_at (out-Node pair.1.node) (kind_394 (out-Node pair.0.node) (out-Node pair.1.node) is (has_kind_at pair (not_false (has_kind pair) (named_none (not (has_kind pair)) pair.0 q.1 is)))))
    (λ _. strings_of protected pairs p.1)

strings_more : (items : List Item) (receipt : List ℕ) → all_strings items ≡ true → all_strings (items ++ bytes_item receipt ∷ []) ≡ true
strings_more [] receipt e = ap (λ (l : Layer). is_string l && true) (outs-Bytes receipt)
strings_more (item ∷ items) receipt e =
    let p = and_parts (is_string (out-Node item.node)) (all_strings items) e in
    and_from (is_string (out-Node item.node)) (all_strings (items ++ bytes_item receipt ∷ [])) p.0 (strings_more items receipt p.1)

is_394 : (key : Item) → key ≡ uint_item 394 → key_is 394 key ≡ true
is_394 key e = ap (λ (k : Item). key_is 394 k) e ∙ ap (λ (l : Layer). is_number_in 394 l) (outs-Uint 394)

or_true : (b : Bool) → (b || true) ≡ true
or_true true = refl
or_true false = refl

-- receipts don't stand among protected entries that are fine
not_protected : SameIsEqual → (protected : List Pair) → first_fault protected_fault protected ≡ None → is_key protected (uint_item 394) ≡ false
unfolding first_fault is_key
not_protected equal [] e = refl
not_protected equal (pair ∷ pairs) e =
    let p = or_none (protected_fault pair) (first_fault protected_fault pairs) e in
    let other : same pair.0 (uint_item 394) ≡ false = false_from_ne_true (same pair.0 (uint_item 394)) (λ is. (
    let here : key_is 394 pair.0 ≡ true = is_394 pair.0 ((equal pair.0 (uint_item 394)).0 is) in
    let wrong : (not (has_kind pair) || key_is 394 pair.0) ≡ false = named_none (not (has_kind pair) || key_is 394 pair.0) pair.0 p.0 here in
    let right : (not (has_kind pair) || key_is 394 pair.0) ≡ true = ap (λ (b : Bool). not (has_kind pair) || b) here ∙ or_true (not (has_kind pair)) in
    both_ways (not (has_kind pair) || key_is 394 pair.0) wrong right)) in
    rw other (not_protected equal pairs p.1)

kind_attached : (items : List Item) → all_strings items ≡ true → has_kind (uint_item 394, array_item items) ≡ true
unfolding has_kind
kind_attached items e = ap (λ (k : Layer). kind_at k (out-Node (array_item items).node)) (outs-Uint 394) ∙ ap (λ (v : Layer). is_receipts v) (outs-Array items) ∙ e

no_crit : (value : Item) → has_number 2 ((uint_item 394, value) ∷ []) ≡ false
no_crit value = ap (λ (l : Layer). is_some (cond (is_number_in 2 l) (Some value) None)) (outs-Uint 394)

crit_attached : (protected unprotected : List Pair) (value : Item) → crit_fault protected unprotected ≡ None → crit_fault protected ((uint_item 394, value) ∷ []) ≡ None
crit_attached protected unprotected value e =
    let fine = not (crit_fine protected (value_at 2 protected)) in
    let p = or_parts (has_number 2 unprotected) fine (if_none (bad_crit protected unprotected) e) in
    ap (λ (b : Bool). cond (b || fine) (Some BadCrit) None) (no_crit value) ∙ ap (λ (b : Bool). cond b (Some BadCrit) None) p.1

header_attached : SameIsEqual → (protected unprotected : List Pair) (receipt : List ℕ) → header_fault protected unprotected ≡ None → header_fault protected (attached_entries (receipt_items unprotected) receipt) ≡ None
unfolding header_fault first_fault
header_attached equal protected unprotected receipt e =
    let p = or_none (first_fault protected_fault protected) _ e in
    let q = or_none (first_fault (unprotected_fault protected) unprotected) (crit_fault protected unprotected) p.1 in
    let items = receipt_items unprotected ++ bytes_item receipt ∷ [] in
    let value = array_item items in
    let new = not_protected equal protected p.0 in
    let kind = kind_attached items (strings_more (receipt_items unprotected) receipt (strings_of protected unprotected q.0)) in
    let fine : unprotected_fault protected (uint_item 394, value) ≡ None = (λ i. or_then (named dup_label (new i) (uint_item 394)) (named bad_header (not (kind i)) (uint_item 394))) in
    (λ i. or_then (p.0 i) (or_then (or_then (fine i) None) (crit_attached protected unprotected value q.1 i)))

-- the receipts of a message are byte strings
fine_strings : (bytes : List ℕ) (v : Sign1) → Sign1Of bytes v → all_strings (receipt_items v.headers.unprotected) ≡ true
unfolding header_fault
fine_strings bytes v (parts, entries, has_parts, has, fine, is) =
    let p = or_none (first_fault protected_fault entries) _ fine in
    let q = or_none (first_fault (unprotected_fault entries) parts.unprotected) (crit_fault entries parts.unprotected) p.1 in
    subst (λ (x : Sign1). all_strings (receipt_items x.headers.unprotected) ≡ true) (sym is) (strings_of entries parts.unprotected q.0)

-- ---- the shape

abbrev parts_with : List ℕ → List Pair → Option (List ℕ) → List ℕ → Parts
parts_with p u c s = record { tagged = true; protected = p; unprotected = u; payload = c; signature = s }

parts_attached : (p : List ℕ) (value : Item) (c : Option (List ℕ)) (s : List ℕ) → parts_in (message_item p (map_item ((uint_item 394, value) ∷ [])) c s) ≡ Some (parts_with p ((uint_item 394, value) ∷ []) c s)
unfolding parts_in
parts_attached p value (Some c) s =
    let u = (uint_item 394, value) ∷ [] in
    let items = message_parts p (map_item u) (Some c) s in
    rw (outs-Tag 18 (record { node = Array items }), outs-Array items, outs-Bytes p, outs-Map u, outs-Uint 394, outs-Bytes c, outs-Bytes s) refl
parts_attached p value None s =
    let u = (uint_item 394, value) ∷ [] in
    let items = message_parts p (map_item u) None s in
    rw (outs-Tag 18 (record { node = Array items }), outs-Array items, outs-Bytes p, outs-Map u, outs-Uint 394, outs-Simple 22, outs-Bytes s) refl

pub attached_is : SameIsEqual → StrictIsWide → (bytes receipt attached : List ℕ) (v : Sign1) → Sign1Of bytes v → Spells Strict (attached_item v receipt) attached → Sign1Of attached (attached_of v receipt)
attached_is equal wide bytes receipt attached v (parts, entries, has_parts, has, fine, is) spelled =
    let items = receipt_items parts.unprotected ++ bytes_item receipt ∷ [] in
    let u = attached_entries (receipt_items parts.unprotected) receipt in
    let s = subst (λ (x : Sign1). Spells Strict (attached_item x receipt) attached) is spelled in
    let w = wide (attached_item (message_of parts entries) receipt) attached s in
    let shape = parts_attached parts.protected (array_item items) parts.payload parts.signature in
    subst (λ (x : Sign1). Sign1Of attached (attached_of x receipt)) (sym is)
    (parts_with parts.protected u parts.payload parts.signature, entries, (attached_item (message_of parts entries) receipt, w, shape), has, header_attached equal entries parts.unprotected receipt fine, refl)

-- ---- the spelling

size_small : (s : Size) → head_size s ≤ 9
size_small Within = omega arith
size_small One = omega arith
size_small Two = omega arith
size_small Four = omega arith
size_small Eight = omega arith

-- a byte string that is spelled in wide
short_by : (room : ℕ) (item : Item) (layer : Layer) (text : List ℕ) → out-Node item.node ≡ layer → SpellsIn Wide room item text → is_string layer ≡ true → (s : List ℕ) × (item ≡ bytes_item s) × (length s ≤ longest_string)
short_by room item (Node-F.Bytes b) text is p e =
    let same : item ≡ bytes_item b = string_is item b (ap string_in is) in
    (b, same, string_short room b text (subst (λ (x : Item). SpellsIn Wide room x text) same p))
short_by room item _ text is p e = absurd cc

-- what stands beside a number in a map that is spelled
value_spelled : (room n : ℕ) (pairs earlier : List Pair) (last text : List ℕ) (value : Item) → SpellPairs Wide (SpellsIn Wide room) earlier last pairs text → value_at n pairs ≡ Some value → (t : List ℕ) × SpellsIn Wide room value t
unfolding SpellPairs
value_spelled room n [] earlier last text value s e = absurd cc
value_spelled room n (pair ∷ pairs) earlier last text value (key, own, rest, p, row, q, more, is) e =
    let go : (b : Bool) → cond b (Some pair.1) (value_at n pairs) ≡ Some value → (t : List ℕ) × SpellsIn Wide room value t = λ b. elim b as (λ b. cond b (Some pair.1) (value_at n pairs) ≡ Some value → (t : List ℕ) × SpellsIn Wide room value t) [
      | true ↦ λ h. (let same : pair.1 ≡ value = cc in (own, subst (λ (x : Item). SpellsIn Wide room x own) same q))
      | false ↦ λ h. value_spelled room n pairs (earlier ++ pair ∷ []) key rest value more h
    ] in
    go (key_is n pair.0) e

module _ (uint : UintFits) (bytes : BytesFit) (array : ArrayFits) (pairs : MapFits) (tag : TagFits) (simple : SimpleFits) (uint_text : UintText)
    (uint_len : UintLength) (bytes_len : BytesLength) (array_len : ArrayLength) (pairs_len : MapLength) (tag_len : TagLength) (simple_len : SimpleLength) where
  -- byte strings within the limit
  abbrev AreStrict : ℕ → List Item → Type 0
  AreStrict r items = (all_items (is_strict_item r) items ≡ true) × (len_sum (strict_len r) items ≤ 4198409 * length items)

  strict_string : (r : ℕ) (s : List ℕ) → length s ≤ longest_string → (is_strict_item r (bytes_item s) ≡ true) × (strict_len r (bytes_item s) ≤ 4198409)
  strict_string r s few = (bytes r s ∙ le-leb (length s) longest_string few, omega (arith, bytes_len r s, size_small (size_of (length s))))

  strict_strings : (room r : ℕ) (items : List Item) (text : List ℕ) → SpellEach (SpellsIn Wide room) items text → all_strings items ≡ true → AreStrict r items
  unfolding SpellEach
  strict_strings room r [] text each e = (refl, omega arith)
  strict_strings room r (item ∷ items) text (front, rest, p, more, is) e =
      let q = and_parts (is_string (out-Node item.node)) (all_strings items) e in
      let s = short_by room item (out-Node item.node) front refl p q.0 in
      let own = strict_string r s.0 s.2 in
      let others = strict_strings room r items rest more q.1 in
      let here : is_strict_item r item ≡ true = ap (λ (x : Item). is_strict_item r x) s.1 ∙ own.0 in
      let len : strict_len r item ≡ strict_len r (bytes_item s.0) = ap (λ (x : Item). strict_len r x) s.1 in
      (and_from (is_strict_item r item) (all_items (is_strict_item r) items) here others.0, omega (arith, len, own.1, others.1))

  layer_strict : (room r : ℕ) (layer : Layer) (text : List ℕ) → SpellsLayer Wide (suc room) (SpellsIn Wide room) layer text → all_strings (items_or (array_at layer)) ≡ true → AreStrict r (items_or (array_at layer))
  layer_strict room r (Node-F.Array items) text (deep, few, (front, rest, h, each, is)) e = strict_strings room r items rest each e
  layer_strict room r _ text s e = (refl, omega arith)

  value_strict : (room r : ℕ) (value : Item) (text : List ℕ) → SpellsIn Wide (suc room) value text → all_strings (items_or (array_in value)) ≡ true → AreStrict r (items_or (array_in value))
  unfolding SpellsIn
  value_strict room r value text s e = layer_strict room r (out-Node value.node) text s e

  receipts_by : (room r : ℕ) (u : List Pair) (text : List ℕ) (o : Option Item) → value_at 394 u ≡ o → SpellPairs Wide (SpellsIn Wide (suc room)) [] [] u text → all_strings (items_or (option_and_then array_in o)) ≡ true → AreStrict r (items_or (option_and_then array_in o))
  receipts_by room r u text None at s e = (refl, omega arith)
  receipts_by room r u text (Some value) at s e = let v = value_spelled (suc room) 394 u [] [] text value s at in value_strict room r value v.0 v.1 e

  receipts_strict : (room r : ℕ) (u : List Pair) (text : List ℕ) → SpellsIn Wide (suc (suc room)) (map_item u) text → all_strings (receipt_items u) ≡ true → AreStrict r (receipt_items u)
  unfolding SpellsIn
  receipts_strict room r u text s e =
      let l = subst (λ (l : Layer). SpellsLayer Wide (suc (suc room)) (SpellsIn Wide (suc room)) l text) (outs-Map u) s in
      receipts_by room r u l.2.1 (value_at 394 u) refl l.2.3 e

  push_all : (r : ℕ) (items : List Item) (last : Item) → all_items (is_strict_item r) items ≡ true → is_strict_item r last ≡ true → all_items (is_strict_item r) (items ++ last ∷ []) ≡ true
  push_all r [] last all e = and_from (is_strict_item r last) true e refl
  push_all r (item ∷ items) last all e =
      let q = and_parts (is_strict_item r item) (all_items (is_strict_item r) items) all in
      and_from (is_strict_item r item) (all_items (is_strict_item r) (items ++ last ∷ [])) q.0 (push_all r items last q.1 e)

  push_len : (r : ℕ) (items : List Item) (last : Item) → len_sum (strict_len r) (items ++ last ∷ []) ≡ len_sum (strict_len r) items + strict_len r last
  push_len r [] last = omega arith
  push_len r (item ∷ items) last = omega (arith, push_len r items last)

  rise : (x : Item) → keys_rise (spell_in Strict 13) [] ((uint_item 394, x) ∷ []) ≡ true
  unfolding is_below
  rise x = rw (uint_text 13 394) refl

  payload_strict : (c : Option (List ℕ)) → ((s : List ℕ) → c ≡ Some s → length s ≤ longest_string) → (is_strict_item 14 (payload_item c) ≡ true) × (strict_len 14 (payload_item c) ≤ 4198409)
  payload_strict None short = (simple 14 22, omega (arith, simple_len 14 22))
  payload_strict (Some s) short = strict_string 14 s (short s refl)

  message_strict : (p : List ℕ) (items : List Item) (c : Option (List ℕ)) (s : List ℕ) → length p ≤ longest_string → length items ≤ most_parts → AreStrict 12 items → ((t : List ℕ) → c ≡ Some t → length t ≤ longest_string) → length s ≤ longest_string
      → (is_strict_item 16 (message_item p (map_item ((uint_item 394, array_item items) ∷ [])) c s) ≡ true) × (strict_len 16 (message_item p (map_item ((uint_item 394, array_item items) ∷ [])) c s) ≤ most)
  message_strict p items c s pf few are cf sf =
      let u : List Pair = (uint_item 394, array_item items) ∷ [] in
      let parts = message_parts p (map_item u) c s in
      let first = strict_string 14 p pf in
      let third = payload_strict c cf in
      let last = strict_string 14 s sf in
      let inner : is_strict_item 13 (array_item items) ≡ true = array 12 items ∙ and_from _ _ (le-leb (length items) most_parts few) are.0 in
      let second : is_strict_item 14 (map_item u) ≡ true = pairs 13 u ∙ and_from _ _ refl (and_from _ _ (and_from _ _ (uint 13 394) (and_from _ _ inner refl)) (rise (array_item items))) in (
        tag 15 18 (array_item parts) ∙ and_from _ _ refl (array 14 parts ∙ and_from _ _ refl (and_from _ _ first.0 (and_from _ _ second (and_from _ _ third.0 (and_from _ _ last.0 refl))))),
        omega (
          arith,
          tag_len 15 18 (array_item parts),
          array_len 14 parts,
          first.1,
          pairs_len 13 u,
          uint_len 13 394,
          array_len 12 items,
          are.1,
          size_small (size_of (length items)),
          third.1,
          last.1,
        ),
      )

  pub attached_strict : StringsAreShort → (bytes receipt : List ℕ) (v : Sign1) → Sign1Of bytes v → HasRoom v → length receipt ≤ longest_string
      → (is_strict_item 16 (attached_item v receipt) ≡ true) × (strict_len 16 (attached_item v receipt) ≤ most)
  attached_strict short b receipt v is room few =
      let limits = short b v is in
      let m = unprotected_spelled b v is in
      let strings = fine_strings b v is in
      let old = receipts_strict m.0 12 v.headers.unprotected m.1 m.2 strings in
      let new = strict_string 12 receipt few in
      let items = receipt_items v.headers.unprotected ++ bytes_item receipt ∷ [] in
      let count = length-append (receipt_items v.headers.unprotected) (bytes_item receipt ∷ []) in
      let are : AreStrict 12 items = (push_all 12 (receipt_items v.headers.unprotected) (bytes_item receipt) old.0 new.0, omega (arith, push_len 12 (receipt_items v.headers.unprotected) (bytes_item receipt), old.1, new.1, count)) in
      message_strict v.protected items v.payload v.signature limits.0 (omega (arith, count, room)) are limits.1 limits.2
