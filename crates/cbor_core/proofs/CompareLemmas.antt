-- How texts compare, one part after the other.
use Rattle.std.proofs.Common.{◌≡◌, ℕ, ◌+◌, ◌-◌, ◌<◌, ◌⊎◌, true, cond, ◌==◌, List, [], ◌∷◌, ◌++◌, length, get_or, take, drop, Option, Some, Result, Ok, refl, sym, ap, subst, ◌∙◌, inl, inr, arith, append_assoc, Ordering}
use Rattle.std.specs.declared.cmp.Ordering.TheVariants.{Less, Equal, Greater}
use Rattle.std.specs.Ordering.{ordering_then}
use Rattle.std.proofs.lemmas.List.{append-nil, length-append, take-append-drop, drop_more, take_all, length-drop}
use Rattle.cbor_core.specs.declared.words.Why.{Why}
use Rattle.cbor_core.specs.declared.heads.Head.{Head}
use Rattle.cbor_core.specs.declared.tree.Item.{Item}
use Rattle.cbor_core.specs.declared.tree.Node.{Node-F, out-Node}
use Rattle.cbor_core.specs.Head.{head_at}
use Rattle.cbor_core.specs.Tree.{Layer}
use Rattle.cbor_core.specs.Faults.{is_string}
use Rattle.cbor_core.specs.Encoding.{spell_each, spell_pairs, spell_in, writer_in, is_allowed, head_layer, head_text, bytes_of, items_of, pairs_of, flat, IsWhole, Differs, Compares, IsFront, ComparesFronts, ComparesItems, ComparesEach}
use Rattle.cbor_core.proofs.StepLemmas.{ok_is}
use Rattle.cbor_core.proofs.HeadLemmas.{head-again}
use Rattle.cbor_core.proofs.SpellParts.{item-parts, both-some, whole-layer, no-items, no-pairs, writer-below, flat-some, some_is}
use Rattle.std.proofs.lemmas.Bool.{cases_lt}

-- ---- lists of bytes

pub split_here : (xs : List ℕ) (i : ℕ) → i < length xs → xs ≡ take i xs ++ get_or xs i 0 ∷ drop (i + 1) xs
split_here xs i lt = sym (take-append-drop i xs) ∙ ap (λ (t : List ℕ). take i xs ++ t) (drop_more xs i 0 lt)

pub differs_here : (a b : List ℕ) (i : ℕ) → i < length a → i < length b → take i a ≡ take i b → get_or a i 0 < get_or b i 0 → Differs a b
differs_here a b i la lb e lt = (take i a, get_or a i 0, get_or b i 0, drop (i + 1) a, drop (i + 1) b, lt, split_here a i la, split_here b i lb ∙ ap (λ (t : List ℕ). t ++ get_or b i 0 ∷ drop (i + 1) b) (sym e))

pub front_here : (a b : List ℕ) (i : ℕ) → i ≡ length a → length a < length b → take i a ≡ take i b → IsFront a b
front_here a b i is lt e =
    let all : take i a ≡ a = take_all i a (omega arith) in
    (drop i b, omega (arith, length-drop i b), sym (take-append-drop i b) ∙ ap (λ (t : List ℕ). t ++ drop i b) (sym e ∙ all))

-- ---- parts

Differs-left : (a b c d : List ℕ) → Differs a b → Differs (a ++ c) (b ++ d)
Differs-left a b c d (front, x, y, more, rest, lt, ea, eb) =
    (front, x, y, more ++ c, rest ++ d, lt, ap (λ (t : List ℕ). t ++ c) ea ∙ append_assoc front (x ∷ more) c, ap (λ (t : List ℕ). t ++ d) eb ∙ append_assoc front (y ∷ rest) d)

Differs-right : (a c d : List ℕ) → Differs c d → Differs (a ++ c) (a ++ d)
Differs-right a c d (front, x, y, more, rest, lt, ec, ed) =
    (a ++ front, x, y, more, rest, lt, ap (λ (t : List ℕ). a ++ t) ec ∙ sym (append_assoc a front (x ∷ more)), ap (λ (t : List ℕ). a ++ t) ed ∙ sym (append_assoc a front (y ∷ rest)))

Compares-right : (o : Ordering) (a c d : List ℕ) → Compares o c d → Compares o (a ++ c) (a ++ d)
Compares-right Less a c d h = Differs-right a c d h
Compares-right Equal a c d h = ap (λ (t : List ℕ). a ++ t) h
Compares-right Greater a c d h = Differs-right a d c h

pub Compares-then : (p o : Ordering) (a b c d : List ℕ) → Compares p a b → (p ≡ Equal → Compares o c d) → Compares (ordering_then p o) (a ++ c) (b ++ d)
Compares-then Less o a b c d h more = Differs-left a b c d h
Compares-then Equal o a b c d h more = subst (λ (t : List ℕ). Compares o (a ++ c) (t ++ d)) h (Compares-right o a c d (more refl))
Compares-then Greater o a b c d h more = Differs-left b a d c h

no_front : (a b : List ℕ) → length a ≡ length b → IsFront a b → ⊥
no_front a b e (rest, some, is) = omega (arith, ap length is, length-append a rest)

pub Compares-from_fronts : (o : Ordering) (a b : List ℕ) → length a ≡ length b → ComparesFronts o a b → Compares o a b
Compares-from_fronts Less a b e (inl h) = h
Compares-from_fronts Less a b e (inr f) = absurd (no_front a b e f)
Compares-from_fronts Equal a b e h = h
Compares-from_fronts Greater a b e (inl h) = h
Compares-from_fronts Greater a b e (inr f) = absurd (no_front b a (sym e) f)

-- ---- heads

Told : Type 0
Told = Result (Head × List ℕ) Why

head_told : (h : Head) (rest : List ℕ) → IsWhole h → head_at (head_text h ++ rest) ≡ Ok (h, rest)
head_told h rest w = head-again h.major h.size h.argument rest w.0 w.1

pub heads-same : (a b : Head) → IsWhole a → IsWhole b → head_text a ≡ head_text b → a ≡ b
heads-same a b p q e = ap (λ (x : Head × List ℕ). x.0) (ok_is (a, []) (b, []) (sym (head_told a [] p) ∙ ap (λ (t : List ℕ). head_at (t ++ [])) e ∙ head_told b [] q))

no_head_front : (a b : Head) → IsWhole a → IsWhole b → IsFront (head_text a) (head_text b) → ⊥
no_head_front a b p q (rest, some, is) =
    let whole : head_text b ++ [] ≡ head_text a ++ rest = append-nil (head_text b) ∙ is in
    let same = ok_is (b, []) (a, rest) (sym (head_told b [] q) ∙ ap head_at whole ∙ head_told a rest p) in
    omega (arith, ap (λ (x : Head × List ℕ). length x.1) same)

pub Compares-heads : (o : Ordering) (a b : Head) → IsWhole a → IsWhole b → ComparesFronts o (head_text a) (head_text b) → Compares o (head_text a) (head_text b)
Compares-heads Less a b p q (inl h) = h
Compares-heads Less a b p q (inr f) = absurd (no_head_front a b p q f)
Compares-heads Equal a b p q h = h
Compares-heads Greater a b p q (inl h) = h
Compares-heads Greater a b p q (inr f) = absurd (no_head_front b a q p f)

-- ---- the lengths of the parts are in the head

bytes_len : Head → ℕ
bytes_len h = cond (is_string h.major) h.argument 0

items_len : Head → ℕ
items_len h = cond (h.major == 4) h.argument (cond (h.major == 6) 1 0)

pairs_len : Head → ℕ
pairs_len h = cond (h.major == 5) h.argument 0

bytes_len-is : (l : Layer) → length (bytes_of l) ≡ bytes_len (head_layer l)
unfolding bytes_len
bytes_len-is (Node-F.Uint n) = refl
bytes_len-is (Node-F.Nint n) = refl
bytes_len-is (Node-F.Bytes bytes) = refl
bytes_len-is (Node-F.Text bytes) = refl
bytes_len-is (Node-F.Array items) = refl
bytes_len-is (Node-F.Map pairs) = refl
bytes_len-is (Node-F.Tag n item) = refl
bytes_len-is (Node-F.Simple n) = refl
bytes_len-is (Node-F.Float width bits) = refl

items_len-is : (l : Layer) → length (items_of l) ≡ items_len (head_layer l)
unfolding items_len
items_len-is (Node-F.Uint n) = refl
items_len-is (Node-F.Nint n) = refl
items_len-is (Node-F.Bytes bytes) = refl
items_len-is (Node-F.Text bytes) = refl
items_len-is (Node-F.Array items) = refl
items_len-is (Node-F.Map pairs) = refl
items_len-is (Node-F.Tag n item) = refl
items_len-is (Node-F.Simple n) = refl
items_len-is (Node-F.Float width bits) = refl

pairs_len-is : (l : Layer) → length (pairs_of l) ≡ pairs_len (head_layer l)
unfolding pairs_len
pairs_len-is (Node-F.Uint n) = refl
pairs_len-is (Node-F.Nint n) = refl
pairs_len-is (Node-F.Bytes bytes) = refl
pairs_len-is (Node-F.Text bytes) = refl
pairs_len-is (Node-F.Array items) = refl
pairs_len-is (Node-F.Map pairs) = refl
pairs_len-is (Node-F.Tag n item) = refl
pairs_len-is (Node-F.Simple n) = refl
pairs_len-is (Node-F.Float width bits) = refl

flat_len : (pairs : List (Item × Item)) → length (flat pairs) ≡ length pairs + length pairs
flat_len [] = omega arith
flat_len (pair ∷ pairs) = omega (arith, flat_len pairs)

-- ---- items

module _ (room : ℕ) where
  pub each-then : (p o : Ordering) (x y : Item) (xs ys : List Item) → ComparesItems room p x y → (p ≡ Equal → ComparesEach room o xs ys) → ComparesEach room (ordering_then p o) (x ∷ xs) (y ∷ ys)
  unfolding spell_each
  each-then p o x y xs ys h more g s t len e f =
      let a = both-some (spell_in g room x) (spell_each (spell_in g room) xs) s e in
      let b = both-some (spell_in g room y) (spell_each (spell_in g room) ys) t f in
      let rest : length xs ≡ length ys = omega arith in
      let parts = Compares-then p o a.0 b.0 a.1 b.1 (h g a.0 b.0 a.2 b.2) (λ is. more is g a.1 b.1 rest a.3 b.3) in
      subst (λ (z : List ℕ). Compares (ordering_then p o) z t) (sym a.4) (subst (λ (z : List ℕ). Compares (ordering_then p o) (a.0 ++ a.1) z) (sym b.4) parts)

  -- no items
  pub each-end : (xs ys : List Item) → (length xs ≡ 0) ⊎ (length ys ≡ 0) → ComparesEach room Equal xs ys
  unfolding spell_each
  each-end [] [] h g s t len e f = let p : Some s ≡ Some t = sym e ∙ f in cc
  each-end [] (y ∷ ys) h g s t len e f = absurd (omega arith)
  each-end (x ∷ xs) [] h g s t len e f = absurd (omega arith)
  each-end (x ∷ xs) (y ∷ ys) (inl h) g s t len e f = absurd (omega arith)
  each-end (x ∷ xs) (y ∷ ys) (inr h) g s t len e f = absurd (omega arith)

  -- items that do not compare equal decide
  pub each-decides : (p : Ordering) (x y : Item) (xs ys : List Item) → (p ≡ Equal → ⊥) → ComparesItems room p x y → ComparesEach room p (x ∷ xs) (y ∷ ys)
  each-decides Less x y xs ys ne h = each-then Less Equal x y xs ys h (λ e. absurd (ne e))
  each-decides Equal x y xs ys ne h = absurd (ne refl)
  each-decides Greater x y xs ys ne h = each-then Greater Equal x y xs ys h (λ e. absurd (ne e))

-- ---- one item

-- the comparison of heads, strings, items and pairs is that of the whole
pub item-compares : (room : ℕ) (a b : Item) (heads bytes items pairs : Ordering) → (IsWhole (head_layer (out-Node a.node)) → IsWhole (head_layer (out-Node b.node)) → Compares heads (head_text (head_layer (out-Node a.node))) (head_text (head_layer (out-Node b.node))))
    → (heads ≡ Equal → ComparesFronts bytes (bytes_of (out-Node a.node)) (bytes_of (out-Node b.node)))
    → (heads ≡ Equal → bytes ≡ Equal → 0 < room → ComparesEach (room - 1) items (items_of (out-Node a.node)) (items_of (out-Node b.node)))
    → (heads ≡ Equal → bytes ≡ Equal → items ≡ Equal → 0 < room → ComparesEach (room - 1) pairs (flat (pairs_of (out-Node a.node))) (flat (pairs_of (out-Node b.node))))
    → (room ≡ 0 → (items ≡ Equal) × (pairs ≡ Equal))
    → ComparesItems room (ordering_then heads (ordering_then bytes (ordering_then items pairs))) a b
item-compares room a b heads bytes items pairs by_head by_bytes by_items by_pairs empty g s t e f =
    let la = out-Node a.node in
    let lb = out-Node b.node in
    let p = item-parts g room a s e in
    let q = item-parts g room b t f in
    let wa = whole-layer g room la p.allowed in
    let wb = whole-layer g room lb q.allowed in
    let head_is = by_head wa wb in
    let same : heads ≡ Equal → head_layer la ≡ head_layer lb = λ is. heads-same (head_layer la) (head_layer lb) wa wb (subst (λ (o : Ordering). Compares o (head_text (head_layer la)) (head_text (head_layer lb))) is head_is) in
    let inner : heads ≡ Equal → bytes ≡ Equal → Compares (ordering_then items pairs) (p.items ++ p.pairs) (q.items ++ q.pairs) = λ is same_bytes. elim (cases_lt 0 room) [
      | inl lt ↦
          let below = writer-below g room lt in
          let items_len : length (items_of la) ≡ length (items_of lb) = items_len-is la ∙ ap items_len (same is) ∙ sym (items_len-is lb) in
          let pairs_len : length (pairs_of la) ≡ length (pairs_of lb) = pairs_len-is la ∙ ap pairs_len (same is) ∙ sym (pairs_len-is lb) in
          let flats : length (flat (pairs_of la)) ≡ length (flat (pairs_of lb)) = omega (arith, flat_len (pairs_of la), flat_len (pairs_of lb)) in
          let ia = ap (λ (w : Item → Option (List ℕ)). spell_each w (items_of la)) (sym below) ∙ p.items_is in
          let ib = ap (λ (w : Item → Option (List ℕ)). spell_each w (items_of lb)) (sym below) ∙ q.items_is in
          let pa = ap (λ (w : Item → Option (List ℕ)). spell_each w (flat (pairs_of la))) (sym below) ∙ flat-some g (writer_in g room) [] (pairs_of la) p.pairs p.pairs_is in
          let pb = ap (λ (w : Item → Option (List ℕ)). spell_each w (flat (pairs_of lb))) (sym below) ∙ flat-some g (writer_in g room) [] (pairs_of lb) q.pairs q.pairs_is in
          Compares-then items pairs p.items q.items p.pairs q.pairs (by_items is same_bytes lt g p.items q.items items_len ia ib) (λ same_items. by_pairs is same_bytes same_items lt g p.pairs q.pairs flats pa pb)
      | inr le ↦
          let none : room ≡ 0 = omega arith in
          let equal = empty none in
          let allowed_a = subst (λ (k : ℕ). is_allowed g k la ≡ true) none p.allowed in
          let allowed_b = subst (λ (k : ℕ). is_allowed g k lb ≡ true) none q.allowed in
          let ia = ap (λ (l : List Item). spell_each (writer_in g room) l) (sym (no-items g la allowed_a)) ∙ p.items_is in
          let ib = ap (λ (l : List Item). spell_each (writer_in g room) l) (sym (no-items g lb allowed_b)) ∙ q.items_is in
          let pa = ap (λ (l : List (Item × Item)). spell_pairs g (writer_in g room) [] l) (sym (no-pairs g la allowed_a)) ∙ p.pairs_is in
          let pb = ap (λ (l : List (Item × Item)). spell_pairs g (writer_in g room) [] l) (sym (no-pairs g lb allowed_b)) ∙ q.pairs_is in
          let same_items : p.items ≡ q.items = some_is p.items q.items (sym ia ∙ ib) in
          let same_pairs : p.pairs ≡ q.pairs = some_is p.pairs q.pairs (sym pa ∙ pb) in
          let same_text : Compares Equal (p.items ++ p.pairs) (q.items ++ q.pairs) = λ i. same_items i ++ same_pairs i in
          subst (λ (o : Ordering). Compares o (p.items ++ p.pairs) (q.items ++ q.pairs)) (sym (λ i. ordering_then (equal.0 i) (equal.1 i))) same_text
    ] in
    let parts = Compares-then heads (ordering_then bytes (ordering_then items pairs)) (head_text (head_layer la)) (head_text (head_layer lb)) (bytes_of la ++ (p.items ++ p.pairs)) (bytes_of lb ++ (q.items ++ q.pairs)) head_is
    (λ is. (let bytes_len : length (bytes_of la) ≡ length (bytes_of lb) = bytes_len-is la ∙ ap bytes_len (same is) ∙ sym (bytes_len-is lb) in
    Compares-then bytes (ordering_then items pairs) (bytes_of la) (bytes_of lb) (p.items ++ p.pairs) (q.items ++ q.pairs) (Compares-from_fronts bytes (bytes_of la) (bytes_of lb) bytes_len (by_bytes is)) (λ same_bytes. inner is same_bytes))) in
    subst (λ (z : List ℕ). Compares (ordering_then heads (ordering_then bytes (ordering_then items pairs))) z t) (sym p.whole) (subst (λ (z : List ℕ). Compares (ordering_then heads (ordering_then bytes (ordering_then items pairs))) (head_text (head_layer la) ++ (bytes_of la ++ (p.items ++ p.pairs))) z) (sym q.whole) parts)
