-- A map's pairs one after the other, and what is asked of its keys two by two.
use Rattle.std.specs.Prelude.{All}
use Rattle.std.specs.List.{AllPairs}
use Rattle.std.proofs.Common.{◌≡◌, ◌≢◌, ◌↔◌, ℕ, zero, suc, Bool, true, false, cond, List, [], ◌∷◌, ◌++◌, Option, None, Some, get_or, refl, sym, ap, subst, ◌∙◌, arith}
use Rattle.std.proofs.lemmas.Bool.{false_from_ne_true, both_ways}
use Rattle.std.proofs.lemmas.List.Elements.{All-nil, All-cons, All-head, All-tail}
use Rattle.std.proofs.lemmas.List.Kept.{AllPairs-cons}
use Rattle.cbor_core.specs.declared.words.Grammar.{Grammar}
use Rattle.cbor_core.specs.declared.words.Grammar.TheVariants.{Strict, Wide}
use Rattle.cbor_core.specs.declared.words.Why.{Why}
use Rattle.cbor_core.specs.declared.words.Why.TheVariants.{DupKey}
use Rattle.cbor_core.specs.declared.tree.Item.{Item}
use Rattle.cbor_core.specs.declared.tree.Node.{Node-F}
use Rattle.cbor_core.specs.declared.tree.Node.TheVariants.{outs-Map}
use Rattle.cbor_core.specs.Bytes.{is_below}
use Rattle.cbor_core.specs.Tree.{Layer, same, is_key}
use Rattle.cbor_core.specs.Spells.{SpellEach, key_row, SpellPairs, SpellsLayer, SpellsIn}
use Rattle.cbor_core.specs.Head.{head_at}
use Rattle.cbor_core.specs.Reading.{read_in, Risen}
use Rattle.cbor_core.specs.Encoding.{flat, no_writer}
use Rattle.cbor_core.specs.Items.{map_item}
use Rattle.cbor_core.specs.Keys.{IsMapText, IsKeyBelow, IsOtherKey, StrictKeysRise, WideKeysDiffer}
use Rattle.cbor_core.proofs.OrderLemmas.{nil-below}
use Rattle.cbor_core.proofs.SameLemmas.{same-is, same-from}
use Rattle.cbor_core.proofs.StrictLemmas.{below-trans, risen_past, risen_push, no_key, row_order}
use Rattle.cbor_core.proofs.ReadLaws.{read-again}
use Rattle.cbor_core.proofs.KeyLemmas.{unique}

abbrev Pair : Type 0
Pair = Item × Item

AllPairs-rest : {X : Type 0} (R : X → X → Type 0) (x : X) (xs : List X) → AllPairs R (x ∷ xs) → AllPairs R xs
AllPairs-rest R x xs h i j d lt within = h (suc i) (suc j) d (omega arith) (omega arith)

AllPairs-first : {X : Type 0} (R : X → X → Type 0) (x : X) (xs : List X) → AllPairs R (x ∷ xs) → All (R x) xs
AllPairs-first R x xs h j d within = h 0 (suc j) d (omega arith) (omega arith)

AllPairs-none : {X : Type 0} (R : X → X → Type 0) → AllPairs R []
AllPairs-none R i j d lt within = absurd (omega arith)

All-turn : {X : Type 0} (P Q : X → Type 0) (xs : List X) → ((x : X) → P x → Q x) → All P xs → All Q xs
All-turn P Q xs turn h k d lt = turn (get_or xs k d) (h k d lt)

is_false : (b c : Bool) → cond b true c ≡ false → b ≡ false
is_false true c e = absurd cc
is_false false c e = refl

rest_new : (b c : Bool) → cond b true c ≡ false → c ≡ false
rest_new true c e = absurd cc
rest_new false c e = e

both_new : (b c d : Bool) → (c ≡ false → d ≡ false) → cond b true c ≡ false → cond b true d ≡ false
both_new true c d turn e = e
both_new false c d turn e = turn e

-- ---- a key among the earlier ones and one more

new_before : (earlier : List Pair) (pair : Pair) (key : Item) → is_key (earlier ++ pair ∷ []) key ≡ false → is_key earlier key ≡ false
unfolding is_key
new_before [] pair key e = refl
new_before (first ∷ earlier) pair key e = both_new (same first.0 key) (is_key (earlier ++ pair ∷ []) key) (is_key earlier key) (new_before earlier pair key) e

other_than : (earlier : List Pair) (pair : Pair) (key : Item) → is_key (earlier ++ pair ∷ []) key ≡ false → pair.0 ≢ key
unfolding is_key
other_than [] pair key e is = both_ways (same pair.0 key) (is_false (same pair.0 key) false e) (same-from pair.0 key is)
other_than (first ∷ earlier) pair key e is = other_than earlier pair key (rest_new (same first.0 key) (is_key (earlier ++ pair ∷ []) key) e) is

new_behind : (earlier : List Pair) (pair : Pair) (key : Item) → is_key earlier key ≡ false → pair.0 ≢ key → is_key (earlier ++ pair ∷ []) key ≡ false
unfolding is_key
new_behind [] pair key e ne = rw (false_from_ne_true (same pair.0 key) (λ is. ne (same-is pair.0 key is))) refl
new_behind (first ∷ earlier) pair key e ne = rw (is_false (same first.0 key) (is_key earlier key) e) (new_behind earlier pair key (rest_new (same first.0 key) (is_key earlier key) e) ne)

-- ---- strict

module _ (room : ℕ) where
  abbrev Part : Item → List ℕ → Type 0
  Part = SpellsIn Strict room

  -- the key is above what is before it
  abbrev IsAbove : List ℕ → Pair → Type 0
  IsAbove last pair = (t : List ℕ) → Part pair.0 t → is_below last t ≡ true

  above_last : (last key : List ℕ) (pair : Pair) → Part pair.0 key → is_below last key ≡ true → IsAbove last pair
  above_last last key pair p below t q = subst (λ (z : List ℕ). is_below last z ≡ true) (unique room pair.0 key t p q) below

  below_others : (key : List ℕ) (pair : Pair) (pairs : List Pair) → Part pair.0 key → All (IsAbove key) pairs → All (IsKeyBelow room pair) pairs
  below_others key pair pairs p = All-turn (IsAbove key) (IsKeyBelow room pair) pairs (λ (other : Pair) above s t q r. subst (λ (z : List ℕ). is_below z t ≡ true) (unique room pair.0 key s p q) (above t r))

  rising : (earlier : List Pair) (last : List ℕ) (pairs : List Pair) (text : List ℕ) → SpellPairs Strict Part earlier last pairs text
      → SpellEach Part (flat pairs) text × All (IsAbove last) pairs × AllPairs (IsKeyBelow room) pairs
  unfolding SpellPairs SpellEach
  rising earlier last [] text e = (e, All-nil (IsAbove last), AllPairs-none (IsKeyBelow room))
  rising earlier last (pair ∷ pairs) text (key, value, rest, p, row, q, more, e) =
      let behind = rising (earlier ++ pair ∷ []) key pairs rest more in
      let above : is_below last key ≡ true = row_order Part no_writer earlier last pair.0 key row in
      let others : All (IsAbove last) pairs = All-turn (IsAbove key) (IsAbove last) pairs (λ (other : Pair) over t r. below-trans last key t above (over t r)) behind.1 in (
        (key, value ++ rest, p, (value, rest, q, behind.0, refl), e),
        All-cons (IsAbove last) pair pairs (above_last last key pair p above) others,
        AllPairs-cons (IsKeyBelow room) pair pairs (below_others key pair pairs p behind.1) behind.2,
      )

  risen : (earlier : List Pair) (last : List ℕ) (pairs : List Pair) (text : List ℕ) → Risen Part earlier last → SpellEach Part (flat pairs) text → All (IsAbove last) pairs → AllPairs (IsKeyBelow room) pairs
      → SpellPairs Strict Part earlier last pairs text
  unfolding SpellPairs SpellEach
  risen earlier last [] text r e above all = e
  risen earlier last (pair ∷ pairs) text r (key, behind, p, (value, rest, q, more, f), e) above all =
      let over : is_below last key ≡ true = All-head (IsAbove last) pair pairs above key p in
      let fresh : is_key earlier pair.0 ≡ false = no_key Part no_writer (unique room) earlier last pair.0 key r p over in
      let row : key_row Strict earlier last pair.0 key ≡ None = rw (fresh, over) refl in
      let first = AllPairs-first (IsKeyBelow room) pair pairs all in
      let others : All (IsAbove key) pairs = All-turn (IsKeyBelow room pair) (IsAbove key) pairs (λ (other : Pair) under t s. under key t p s) first in
      let up : Risen Part (earlier ++ pair ∷ []) key = risen_push Part no_writer earlier pair key (risen_past Part no_writer earlier last key r over) p in
      (key, value, rest, p, row, q, risen (earlier ++ pair ∷ []) key pairs rest up more others (AllPairs-rest (IsKeyBelow room) pair pairs all), e ∙ ap (λ (t : List ℕ). key ++ t) f)

-- no item is spelled by no bytes
not_empty : (room : ℕ) (item : Item) → SpellsIn Strict room item [] → ⊥
unfolding read_in head_at
not_empty zero item p = let e = read-again Strict zero item [] [] p in absurd cc
not_empty (suc room) item p = let e = read-again Strict (suc room) item [] [] p in absurd cc

above_nothing : (room : ℕ) (item : Item) (t : List ℕ) → SpellsIn Strict room item t → is_below [] t ≡ true
above_nothing room item [] p = absurd (not_empty room item p)
above_nothing room item (b ∷ t) p = nil-below b t

first_above : (room : ℕ) (pairs : List Pair) → All (IsAbove room []) pairs
first_above room pairs k d lt t p = above_nothing room (get_or pairs k d).0 t p

none_risen : (room : ℕ) → Risen (SpellsIn Strict room) [] []
unfolding Risen
none_risen room = tt

-- ---- wide

row_new : (known : Bool) → ◌≡◌ {A = Option Why} (cond known (Some DupKey) None) None → known ≡ false
row_new true e = absurd cc
row_new false e = refl

module _ (room : ℕ) where
  abbrev WidePart : Item → List ℕ → Type 0
  WidePart = SpellsIn Wide room

  -- no earlier pair has the key
  abbrev IsNew : List Pair → Pair → Type 0
  IsNew earlier pair = is_key earlier pair.0 ≡ false

  differing : (earlier : List Pair) (last : List ℕ) (pairs : List Pair) (text : List ℕ) → SpellPairs Wide WidePart earlier last pairs text
      → SpellEach WidePart (flat pairs) text × All (IsNew earlier) pairs × AllPairs IsOtherKey pairs
  unfolding SpellPairs SpellEach
  differing earlier last [] text e = (e, All-nil (IsNew earlier), AllPairs-none IsOtherKey)
  differing earlier last (pair ∷ pairs) text (key, value, rest, p, row, q, more, e) =
      let behind = differing (earlier ++ pair ∷ []) key pairs rest more in (
        (key, value ++ rest, p, (value, rest, q, behind.0, refl), e),
        All-cons (IsNew earlier) pair pairs (row_new (is_key earlier pair.0) row) (All-turn (IsNew (earlier ++ pair ∷ [])) (IsNew earlier) pairs (λ (other : Pair) new. new_before earlier pair other.0 new) behind.1),
        AllPairs-cons IsOtherKey pair pairs (All-turn (IsNew (earlier ++ pair ∷ [])) (IsOtherKey pair) pairs (λ (other : Pair) new. other_than earlier pair other.0 new) behind.1) behind.2,
      )

  differ : (earlier : List Pair) (last : List ℕ) (pairs : List Pair) (text : List ℕ) → SpellEach WidePart (flat pairs) text → All (IsNew earlier) pairs → AllPairs IsOtherKey pairs → SpellPairs Wide WidePart earlier last pairs text
  unfolding SpellPairs SpellEach
  differ earlier last [] text e new all = e
  differ earlier last (pair ∷ pairs) text (key, behind, p, (value, rest, q, more, f), e) new all =
      let fresh : is_key earlier pair.0 ≡ false = All-head (IsNew earlier) pair pairs new in
      let row : key_row Wide earlier last pair.0 key ≡ None = rw fresh refl in
      let others : All (IsNew (earlier ++ pair ∷ [])) pairs = λ k d lt. new_behind earlier pair (get_or pairs k d).0 (All-tail (IsNew earlier) pair pairs new k d lt) (AllPairs-first IsOtherKey pair pairs all k d lt) in
      (key, value, rest, p, row, q, differ (earlier ++ pair ∷ []) key pairs rest more others (AllPairs-rest IsOtherKey pair pairs all), e ∙ ap (λ (t : List ℕ). key ++ t) f)

all_new : (pairs : List Pair) → All (λ (pair : Pair). is_key [] pair.0 ≡ false) pairs
unfolding is_key
all_new pairs k d lt = refl

-- ---- the laws

map_layer : (g : Grammar) (room : ℕ) (pairs : List Pair) (text : List ℕ) → SpellsIn g (suc room) (map_item pairs) text ↔ SpellsLayer g (suc room) (SpellsIn g room) (Node-F.Map pairs) text
unfolding SpellsIn
map_layer g room pairs text = (
  λ s. subst (λ (l : Layer). SpellsLayer g (suc room) (SpellsIn g room) l text) (outs-Map pairs) s,
  λ s. subst (λ (l : Layer). SpellsLayer g (suc room) (SpellsIn g room) l text) (sym (outs-Map pairs)) s,
)

strict_from : (room : ℕ) (pairs : List Pair) (text : List ℕ) → SpellsLayer Strict (suc room) (SpellsIn Strict room) (Node-F.Map pairs) text → IsMapText Strict room pairs text × AllPairs (IsKeyBelow room) pairs
strict_from room pairs text (deep, few, (front, rest, h, s, e)) = let r = rising room [] [] pairs rest s in ((few, (front, rest, h, r.0, e)), r.2)

strict_to : (room : ℕ) (pairs : List Pair) (text : List ℕ) → IsMapText Strict room pairs text → AllPairs (IsKeyBelow room) pairs → SpellsLayer Strict (suc room) (SpellsIn Strict room) (Node-F.Map pairs) text
strict_to room pairs text (few, (front, rest, h, s, e)) all = (omega arith, few, (front, rest, h, risen room [] [] pairs rest (none_risen room) s (first_above room pairs) all, e))

pub strict_keys_rise : StrictKeysRise
strict_keys_rise room pairs text =
    let l = map_layer Strict room pairs text in
    (λ s. strict_from room pairs text (l.0 s), λ m. l.1 (strict_to room pairs text m.0 m.1))

wide_from : (room : ℕ) (pairs : List Pair) (text : List ℕ) → SpellsLayer Wide (suc room) (SpellsIn Wide room) (Node-F.Map pairs) text → IsMapText Wide room pairs text × AllPairs IsOtherKey pairs
wide_from room pairs text (deep, few, (front, rest, h, s, e)) = let r = differing room [] [] pairs rest s in ((few, (front, rest, h, r.0, e)), r.2)

wide_to : (room : ℕ) (pairs : List Pair) (text : List ℕ) → IsMapText Wide room pairs text → AllPairs IsOtherKey pairs → SpellsLayer Wide (suc room) (SpellsIn Wide room) (Node-F.Map pairs) text
wide_to room pairs text (few, (front, rest, h, s, e)) all = (omega arith, few, (front, rest, h, differ room [] [] pairs rest s (all_new pairs) all, e))

pub wide_keys_differ : WideKeysDiffer
wide_keys_differ room pairs text =
    let l = map_layer Wide room pairs text in
    (λ s. wide_from room pairs text (l.0 s), λ m. l.1 (wide_to room pairs text m.0 m.1))
