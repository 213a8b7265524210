-- The parts of the shortest spelling of an item.
use Rattle.std.proofs.Common.{◌≡◌, ℕ, zero, suc, ◌+◌, ◌-◌, ◌^◌, ◌<◌, ◌≤◌, ◌⊎◌, Bool, true, false, cond, not, ◌&&◌, ◌||◌, ◌==◌, List, [], ◌∷◌, ◌++◌, length, Option, Some, None, refl, sym, ap, ◌∙◌, inl, inr, arith, nat_lt, ltb-true, le-ltb, lt-ltb, leb-true, eqb-true, ne_eqb}
use Rattle.std.specs.Prelude.{nat_le, option_and_then}
use Rattle.std.specs.Str.{is_utf8}
use Rattle.std.proofs.lemmas.Bool.{and_parts, or_cases, and_left, cases_lt}
use Rattle.cbor_core.specs.declared.words.Grammar.{Grammar}
use Rattle.cbor_core.specs.declared.tree.Item.{Item}
use Rattle.cbor_core.specs.declared.tree.Node.{Node-F, out-Node}
use Rattle.cbor_core.specs.Limits.{longest_string, most_parts}
use Rattle.cbor_core.specs.Head.{limit, least}
use Rattle.cbor_core.specs.Tree.{Layer}
use Rattle.cbor_core.specs.Spells.{is_strict}
use Rattle.cbor_core.specs.Encoding.{size_of, both, Writer, spell_each, may_follow, spell_pairs, is_width, is_allowed, short, head_layer, bytes_of, items_of, pairs_of, content_layer, head_text, spell_layer, spell_in, writer_in, IsWhole, flat}
use Rattle.cbor_core.proofs.HeadLemmas.{free_below, free_from}

pub spell_in-is : (g : Grammar) (room : ℕ) (item : Item) → spell_in g room item ≡ spell_layer g room (writer_in g room) (out-Node item.node)
unfolding spell_in
spell_in-is g zero item = refl
spell_in-is g (suc room) item = refl

pub some_is : {A : Type 0} (x y : A) → Some x ≡ Some y → x ≡ y
some_is x y e = cc

-- both texts, where one after the other is there
pub both-some : (x y : Option (List ℕ)) (t : List ℕ) → both x y ≡ Some t → (a : List ℕ) × (b : List ℕ) × (x ≡ Some a) × (y ≡ Some b) × (t ≡ a ++ b)
both-some None y t e = absurd cc
both-some (Some a) None t e = absurd cc
both-some (Some a) (Some b) t e = (a, b, refl, refl, sym (some_is (a ++ b) t e))

guard_some : {A : Type 0} (b : Bool) (x : Option A) (y : A) → cond b x None ≡ Some y → (b ≡ true) × (x ≡ Some y)
guard_some true x y e = (refl, e)
guard_some false x y e = absurd cc

-- the shortest size of a number below 2 ^ 64 holds it, and no shorter one does
pub size-holds : (n : ℕ) → n < 2 ^ 64 → (least (size_of n) ≤ n) × (n < limit (size_of n))
size-holds n h =
    elim (cases_lt n 24) [
      | inl a ↦ rw (lt-ltb n 24 a) (omega arith, a)
      | inr a ↦ elim (cases_lt n (2 ^ 8)) [
        | inl b ↦ rw (le-ltb n 24 a, lt-ltb n (2 ^ 8) b) (a, b)
        | inr b ↦ elim (cases_lt n (2 ^ 16)) [
          | inl c ↦ rw (le-ltb n 24 a, le-ltb n (2 ^ 8) b, lt-ltb n (2 ^ 16) c) (b, c)
          | inr c ↦ elim (cases_lt n (2 ^ 32)) [
            | inl d ↦ rw (le-ltb n 24 a, le-ltb n (2 ^ 8) b, le-ltb n (2 ^ 16) c, lt-ltb n (2 ^ 32) d) (c, d)
            | inr d ↦ rw (le-ltb n 24 a, le-ltb n (2 ^ 8) b, le-ltb n (2 ^ 16) c, le-ltb n (2 ^ 32) d) (d, h)
          ]
        ]
      ]
    ]

-- the head of a layer that is allowed can be told from what follows it
whole_below : (major n : ℕ) → major < 7 → n < 2 ^ 64 → IsWhole (short major n)
whole_below major n lt h = let fits = (size-holds n h).1 in (fits, free_below major (size_of n) n lt fits)

whole_simple : (n : ℕ) → (n < 24) ⊎ ((32 ≤ n) × (n < 2 ^ 8)) → IsWhole (short 7 n)
whole_simple n (inl a) = rw (lt-ltb n 24 a) (a, and_left (224 + n == 248) (nat_lt n 32) (ne_eqb (224 + n) 248 (λ e. absurd (omega arith))))
whole_simple n (inr (a, b)) =
    let big : 24 ≤ n = omega arith in
    rw (le-ltb n 24 big, lt-ltb n (2 ^ 8) b) (b, free_from 248 n a)

whole_float : (width bits : ℕ) → is_width width bits ≡ true → IsWhole (head_layer (Node-F.Float width bits))
whole_float width bits e =
    elim (or_cases (width == 2 && nat_lt bits (2 ^ 16)) (width == 4 && nat_lt bits (2 ^ 32) || width == 8 && nat_lt bits (2 ^ 64)) e) [
      | inl p ↦ (let q = and_parts (width == 2) (nat_lt bits (2 ^ 16)) p in rw q.0 (ltb-true bits (2 ^ 16) q.1, refl))
      | inr r ↦ elim (or_cases (width == 4 && nat_lt bits (2 ^ 32)) (width == 8 && nat_lt bits (2 ^ 64)) r) [
        | inl p ↦
            let q = and_parts (width == 4) (nat_lt bits (2 ^ 32)) p in
            let four : width ≡ 4 = eqb-true width 4 q.0 in
            rw (ne_eqb width 2 (λ x. absurd (omega arith)), q.0) (ltb-true bits (2 ^ 32) q.1, refl)
        | inr p ↦
            let q = and_parts (width == 8) (nat_lt bits (2 ^ 64)) p in
            let eight : width ≡ 8 = eqb-true width 8 q.0 in
            rw (ne_eqb width 2 (λ x. absurd (omega arith)), ne_eqb width 4 (λ x. absurd (omega arith))) (ltb-true bits (2 ^ 64) q.1, refl)
      ]
    ]

pub simple_cases : (n : ℕ) → (nat_lt n 24 || nat_le 32 n && nat_lt n (2 ^ 8)) ≡ true → (n < 24) ⊎ ((32 ≤ n) × (n < 2 ^ 8))
simple_cases n e =
    elim (or_cases (nat_lt n 24) (nat_le 32 n && nat_lt n (2 ^ 8)) e) [
      | inl p ↦ inl (ltb-true n 24 p)
      | inr p ↦ (let q = and_parts (nat_le 32 n) (nat_lt n (2 ^ 8)) p in inr (leb-true 32 n q.0, ltb-true n (2 ^ 8) q.1))
    ]

pub whole-layer : (g : Grammar) (room : ℕ) (layer : Layer) → is_allowed g room layer ≡ true → IsWhole (head_layer layer)
whole-layer g room (Node-F.Uint n) e = whole_below 0 n (omega arith) (ltb-true n (2 ^ 64) e)
whole-layer g room (Node-F.Nint n) e = whole_below 1 n (omega arith) (ltb-true n (2 ^ 64) e)
whole-layer g room (Node-F.Bytes bytes) e = let h : length bytes ≤ longest_string = leb-true (length bytes) longest_string e in whole_below 2 (length bytes) (omega arith) (omega arith)
whole-layer g room (Node-F.Text bytes) e =
    let p = and_parts (nat_le (length bytes) longest_string) (is_utf8 bytes) e in
    let h : length bytes ≤ longest_string = leb-true (length bytes) longest_string p.0 in
    whole_below 3 (length bytes) (omega arith) (omega arith)
whole-layer g room (Node-F.Array items) e =
    let p = and_parts (nat_lt 0 room) (nat_le (length items) most_parts) e in
    let h : length items ≤ most_parts = leb-true (length items) most_parts p.1 in
    whole_below 4 (length items) (omega arith) (omega arith)
whole-layer g room (Node-F.Map pairs) e =
    let p = and_parts (nat_lt 0 room) (nat_le (length pairs) most_parts) e in
    let h : length pairs ≤ most_parts = leb-true (length pairs) most_parts p.1 in
    whole_below 5 (length pairs) (omega arith) (omega arith)
whole-layer g room (Node-F.Tag n item) e = let p = and_parts (nat_lt 0 room) (nat_lt n (2 ^ 64)) e in whole_below 6 n (omega arith) (ltb-true n (2 ^ 64) p.1)
whole-layer g room (Node-F.Simple n) e = whole_simple n (simple_cases n e)
whole-layer g room (Node-F.Float width bits) e = let p = and_parts (not (is_strict g)) (is_width width bits) e in whole_float width bits p.1

-- where no container may be opened, there are no parts
no_room : (n : ℕ) → (nat_lt 0 0 && nat_le n most_parts) ≡ true → ⊥
no_room n e = let p = and_parts (nat_lt 0 0) (nat_le n most_parts) e in let lt : 0 < 0 = ltb-true 0 0 p.0 in omega arith

pub no-items : (g : Grammar) (layer : Layer) → is_allowed g 0 layer ≡ true → items_of layer ≡ []
no-items g (Node-F.Uint n) e = refl
no-items g (Node-F.Nint n) e = refl
no-items g (Node-F.Bytes bytes) e = refl
no-items g (Node-F.Text bytes) e = refl
no-items g (Node-F.Array items) e = absurd (no_room (length items) e)
no-items g (Node-F.Map pairs) e = refl
no-items g (Node-F.Tag n item) e = let p = and_parts (nat_lt 0 0) (nat_lt n (2 ^ 64)) e in let lt : 0 < 0 = ltb-true 0 0 p.0 in absurd (omega arith)
no-items g (Node-F.Simple n) e = refl
no-items g (Node-F.Float width bits) e = refl

pub no-pairs : (g : Grammar) (layer : Layer) → is_allowed g 0 layer ≡ true → pairs_of layer ≡ []
no-pairs g (Node-F.Uint n) e = refl
no-pairs g (Node-F.Nint n) e = refl
no-pairs g (Node-F.Bytes bytes) e = refl
no-pairs g (Node-F.Text bytes) e = refl
no-pairs g (Node-F.Array items) e = refl
no-pairs g (Node-F.Map pairs) e = absurd (no_room (length pairs) e)
no-pairs g (Node-F.Tag n item) e = refl
no-pairs g (Node-F.Simple n) e = refl
no-pairs g (Node-F.Float width bits) e = refl

-- a string that is allowed is no longer than the limit
pub short-bytes : (g : Grammar) (room : ℕ) (layer : Layer) → is_allowed g room layer ≡ true → length (bytes_of layer) ≤ longest_string
short-bytes g room (Node-F.Uint n) e = omega arith
short-bytes g room (Node-F.Nint n) e = omega arith
short-bytes g room (Node-F.Bytes bytes) e = leb-true (length bytes) longest_string e
short-bytes g room (Node-F.Text bytes) e = leb-true (length bytes) longest_string (and_parts (nat_le (length bytes) longest_string) (is_utf8 bytes) e).0
short-bytes g room (Node-F.Array items) e = omega arith
short-bytes g room (Node-F.Map pairs) e = omega arith
short-bytes g room (Node-F.Tag n item) e = omega arith
short-bytes g room (Node-F.Simple n) e = omega arith
short-bytes g room (Node-F.Float width bits) e = omega arith

-- the parts of a spelling
pub record Parts (g : Grammar) (room : ℕ) (layer : Layer) (text : List ℕ) : Type 0 where
  pub allowed : is_allowed g room layer ≡ true
  pub items : List ℕ
  pub pairs : List ℕ
  pub items_is : spell_each (writer_in g room) (items_of layer) ≡ Some items
  pub pairs_is : spell_pairs g (writer_in g room) [] (pairs_of layer) ≡ Some pairs
  pub whole : text ≡ head_text (head_layer layer) ++ (bytes_of layer ++ (items ++ pairs))

pub layer-parts : (g : Grammar) (room : ℕ) (layer : Layer) (text : List ℕ) → spell_layer g room (writer_in g room) layer ≡ Some text → Parts g room layer text
layer-parts g room layer text e =
    let part = writer_in g room in
    let p = guard_some (is_allowed g room layer) (both (Some (head_text (head_layer layer))) (content_layer g part layer)) text e in
    let q = both-some (Some (head_text (head_layer layer))) (content_layer g part layer) text p.1 in
    let r = both-some (Some (bytes_of layer)) (both (spell_each part (items_of layer)) (spell_pairs g part [] (pairs_of layer))) q.1 q.3 in
    let s = both-some (spell_each part (items_of layer)) (spell_pairs g part [] (pairs_of layer)) r.1 r.3 in
    record {
      allowed = p.0;
      items = s.0;
      pairs = s.1;
      items_is = s.2;
      pairs_is = s.3;
      whole = q.4 ∙ (λ i. sym (some_is (head_text (head_layer layer)) q.0 q.2) i ++ r.4 i) ∙ (λ i. head_text (head_layer layer) ++ (sym (some_is (bytes_of layer) r.0 r.2) i ++ s.4 i));
    }

pub item-parts : (g : Grammar) (room : ℕ) (item : Item) (text : List ℕ) → spell_in g room item ≡ Some text → Parts g room (out-Node item.node) text
item-parts g room item text e = layer-parts g room (out-Node item.node) text (sym (spell_in-is g room item) ∙ e)

-- the writer of parts, where a container may be opened
pub writer-below : (g : Grammar) (room : ℕ) → 0 < room → writer_in g room ≡ spell_in g (room - 1)
writer-below g zero lt = absurd (omega arith)
writer-below g (suc room) lt = let n : suc room - 1 ≡ room = omega arith in ap (λ (k : ℕ). spell_in g k) (sym n)

-- a pair that is spelled, and the pairs behind it
pub pair-some : (g : Grammar) (part : Writer) (last : List ℕ) (pair : Item × Item) (pairs : List (Item × Item)) (text : List ℕ) → spell_pairs g part last (pair ∷ pairs) ≡ Some text
    → (key : List ℕ) × (value : List ℕ) × (rest : List ℕ) × (part pair.0 ≡ Some key) × (may_follow g last key ≡ true) × (part pair.1 ≡ Some value) × (spell_pairs g part key pairs ≡ Some rest) × (text ≡ key ++ (value ++ rest))
unfolding spell_pairs
pair-some g part last pair pairs text e =
    let go : (o : Option (List ℕ)) → option_and_then (λ key. cond (may_follow g last key) (both (Some key) (both (part pair.1) (spell_pairs g part key pairs))) None) o ≡ Some text → (key : List ℕ) × (o ≡ Some key) × (cond (may_follow g last key) (both (Some key) (both (part pair.1) (spell_pairs g part key pairs))) None ≡ Some text) =
    λ o. elim o as (λ o. option_and_then (λ key. cond (may_follow g last key) (both (Some key) (both (part pair.1) (spell_pairs g part key pairs))) None) o ≡ Some text → (key : List ℕ) × (o ≡ Some key) × (cond (may_follow g last key) (both (Some key) (both (part pair.1) (spell_pairs g part key pairs))) None ≡ Some text)) [ None ↦ λ h. absurd cc | Some key ↦ λ h. (key, refl, h) ] in
    let k = go (part pair.0) e in
    let key = k.0 in
    let p = guard_some (may_follow g last key) (both (Some key) (both (part pair.1) (spell_pairs g part key pairs))) text k.2 in
    let q = both-some (Some key) (both (part pair.1) (spell_pairs g part key pairs)) text p.1 in
    let r = both-some (part pair.1) (spell_pairs g part key pairs) q.1 q.3 in
    (key, r.0, r.1, k.1, p.0, r.2, r.3, q.4 ∙ (λ i. sym (some_is key q.0 q.2) i ++ r.4 i))

-- the pairs of a spelling are their keys and values, one after the other
pub flat-some : (g : Grammar) (part : Writer) (last : List ℕ) (pairs : List (Item × Item)) (text : List ℕ) → spell_pairs g part last pairs ≡ Some text → spell_each part (flat pairs) ≡ Some text
unfolding spell_pairs spell_each
flat-some g part last [] text e = e
flat-some g part last (pair ∷ pairs) text e =
    let p = pair-some g part last pair pairs text e in
    let more = flat-some g part p.0 pairs p.2 p.6 in
    (λ i. both (p.3 i) (both (p.5 i) (more i))) ∙ ap (λ (t : List ℕ). Some t) (sym p.7)
