-- The steps of measuring an item.
use Rattle.std.proofs.Common.{◌≡◌, ℕ, ◌+◌, ◌-◌, ◌<◌, ◌≤◌, Bool, true, false, cond, List, [], ◌∷◌, length, get_or, drop, Option, Some, None, refl, sym, ap, subst, ◌∙◌, arith, Ordering}
use Rattle.std.specs.declared.cmp.Ordering.TheVariants.{Less, Equal, Greater}
use Rattle.std.specs.Ordering.{is_lt}
use Rattle.std.specs.Prelude.{is_some, nat_le, option_and_then}
use Rattle.std.proofs.lemmas.List.{drop_all}
use Rattle.cbor_core.specs.declared.words.Grammar.{Grammar}
use Rattle.cbor_core.specs.declared.tree.Item.{Item}
use Rattle.cbor_core.specs.Bytes.{is_below}
use Rattle.cbor_core.specs.Tree.{Layer}
use Rattle.cbor_core.specs.Encoding.{both, Writer, most, len_of, sum_len, may_follow, is_allowed, bytes_of, items_of, pairs_of, content_layer, spell_each, spell_pairs, spell_in, writer_in, text_or, last_text, IsLast, Compares, ComparesItems}
use Rattle.cbor_core.specs.Spells.{is_strict}
use Rattle.std.specs.Borrow.{Bor}
use Rattle.cbor_core.proofs.OrderLemmas.{below-less, below-more, below-itself, below-behind, nil-below}
use Rattle.cbor_core.proofs.LengthLemmas.{len-fits, len-both, sum-assoc}
use Rattle.cbor_core.proofs.CompareSteps.{drop_item}
use Rattle.cbor_core.proofs.SpellParts.{item-parts, no-items, no-pairs, short-bytes, writer-below}

-- ---- order

pub Compares-below : (o : Ordering) (s t : List ℕ) → Compares o s t → is_below s t ≡ is_lt o
Compares-below Less s t (front, x, y, more, rest, lt, es, et) = (λ i. is_below (es i) (et i)) ∙ below-behind front (x ∷ more) (y ∷ rest) ∙ below-less x y more rest lt
Compares-below Equal s t e = ap (λ (z : List ℕ). is_below s z) (sym e) ∙ below-itself s
Compares-below Greater s t (front, x, y, more, rest, lt, et, es) = (λ i. is_below (es i) (et i)) ∙ below-behind front (y ∷ rest) (x ∷ more) ∙ below-more y x rest more lt

-- a text that is there
pub some_of : {A : Type 0} (o : Option A) → is_some o ≡ true → (x : A) × (o ≡ Some x)
some_of None e = absurd cc
some_of (Some x) e = (x, refl)

-- no text is empty
pub first-below : (g : Grammar) (room : ℕ) (item : Item) → is_some (spell_in g room item) ≡ true → is_below [] (text_or (spell_in g room item)) ≡ true
first-below g room item e =
    let t = some_of (spell_in g room item) e in
    let p = item-parts g room item t.0 t.1 in
    ap (λ (o : Option (List ℕ)). is_below [] (text_or o)) t.1 ∙ ap (λ (z : List ℕ). is_below [] z) p.whole ∙ nil-below _ _

-- ---- sums

pub sum-fits_again : (a b : Option ℕ) → sum_len (sum_len a b) (Some 0) ≡ sum_len a b
sum-fits_again None b = refl
sum-fits_again (Some m) None = refl
sum-fits_again (Some m) (Some n) =
    let go : (x : Bool) → nat_le (m + n) most ≡ x → sum_len (cond x (Some (m + n)) None) (Some 0) ≡ cond x (Some (m + n)) None = λ x. elim x as (λ x. nat_le (m + n) most ≡ x → sum_len (cond x (Some (m + n)) None) (Some 0) ≡ cond x (Some (m + n)) None) [
      | true ↦ λ e. (let n0 : (m + n) + 0 ≡ m + n = omega arith in rw (n0, e) refl)
      | false ↦ λ e. refl
    ] in
    go (nat_le (m + n) most) refl

-- a length is there only where a text is
pub text_of_len : (o : Option (List ℕ)) (n : ℕ) → len_of o ≡ Some n → is_some o ≡ true
text_of_len None n e = absurd cc
text_of_len (Some t) n e = refl

-- ---- items

module _ (part : Writer) where
  pub items-step : (items : List Item) (i : ℕ) (x : Item) (total : Option ℕ) → i < length items → x ≡ get_or items i x
      → sum_len (sum_len total (len_of (part x))) (len_of (spell_each part (drop (i + 1) items))) ≡ sum_len total (len_of (spell_each part (drop i items)))
  unfolding spell_each
  items-step items i x total lt e =
      sum-assoc total (len_of (part x)) (len_of (spell_each part (drop (i + 1) items)))
      ∙ ap (λ (n : Option ℕ). sum_len total n) (sym (ap (λ (l : List Item). len_of (spell_each part l)) (drop_item items i x lt e) ∙ len-both (part x) (spell_each part (drop (i + 1) items))))

  pub items-none : (items : List Item) (i : ℕ) → length items ≤ i → len_of (spell_each part (drop i items)) ≡ Some 0
  unfolding spell_each
  items-none items i le = ap (λ (l : List Item). len_of (spell_each part l)) (drop_all i items le)

module _ (g : Grammar) (part : Writer) (pairs : List (Item × Item)) (i : ℕ) (x : Item × Item) (last : List ℕ) (lt : i < length pairs) (e : x ≡ get_or pairs i x) where
  at_pair : len_of (spell_pairs g part last (drop i pairs)) ≡ len_of (spell_pairs g part last (x ∷ drop (i + 1) pairs))
  at_pair = ap (λ (l : List (Item × Item)). len_of (spell_pairs g part last l)) (drop_item pairs i x lt e)

  -- without its key a pair has no length
  pub pairs-no_key : len_of (part x.0) ≡ None → len_of (spell_pairs g part last (drop i pairs)) ≡ None
  unfolding spell_pairs
  pairs-no_key none =
      let go : (o : Option (List ℕ)) → part x.0 ≡ o → len_of o ≡ None → len_of (spell_pairs g part last (x ∷ drop (i + 1) pairs)) ≡ None = λ o. elim o as (λ o. part x.0 ≡ o → len_of o ≡ None → len_of (spell_pairs g part last (x ∷ drop (i + 1) pairs)) ≡ None) [
        | None ↦ λ is _. rw is refl
        | Some key ↦ λ is long. (let rest = both (part x.1) (spell_pairs g part key (drop (i + 1) pairs)) in
            let one : len_of (spell_pairs g part last (x ∷ drop (i + 1) pairs)) ≡ len_of (cond (may_follow g last key) (both (Some key) rest) None) = rw is refl in
            let two : (b : Bool) → len_of (cond b (both (Some key) rest) None) ≡ None = λ b. elim b as (λ b. len_of (cond b (both (Some key) rest) None) ≡ None) [ true ↦ len-both (Some key) rest ∙ ap (λ (n : Option ℕ). sum_len n (len_of rest)) long | false ↦ refl ] in
            one ∙ two (may_follow g last key))
      ] in
      at_pair ∙ go (part x.0) refl none

  pub pairs-no_order : is_some (part x.0) ≡ true → may_follow g last (text_or (part x.0)) ≡ false → len_of (spell_pairs g part last (drop i pairs)) ≡ None
  unfolding spell_pairs
  pairs-no_order some bad =
      let key = some_of (part x.0) some in
      let bad' : may_follow g last key.0 ≡ false = ap (λ (o : Option (List ℕ)). may_follow g last (text_or o)) (sym key.1) ∙ bad in
      let here : len_of (spell_pairs g part last (x ∷ drop (i + 1) pairs)) ≡ None = rw (key.1, bad') refl in
      at_pair ∙ here

  pub pairs-step : (total : Option ℕ) → is_some (part x.0) ≡ true → may_follow g last (text_or (part x.0)) ≡ true
      → sum_len (sum_len total (sum_len (len_of (part x.0)) (len_of (part x.1)))) (len_of (spell_pairs g part (text_or (part x.0)) (drop (i + 1) pairs))) ≡ sum_len total (len_of (spell_pairs g part last (drop i pairs)))
  unfolding spell_pairs
  pairs-step total some good =
      let key = some_of (part x.0) some in
      let good' : may_follow g last key.0 ≡ true = ap (λ (o : Option (List ℕ)). may_follow g last (text_or o)) (sym key.1) ∙ good in
      let rest = spell_pairs g part key.0 (drop (i + 1) pairs) in
      let behind : List ℕ → Option (List ℕ) = λ k. cond (may_follow g last k) (both (Some k) (both (part x.1) (spell_pairs g part k (drop (i + 1) pairs)))) None in
      let here : len_of (spell_pairs g part last (x ∷ drop (i + 1) pairs)) ≡ len_of (both (Some key.0) (both (part x.1) rest)) = ap (λ (o : Option (List ℕ)). len_of (option_and_then behind o)) key.1 ∙ ap (λ (b : Bool). len_of (cond b (both (Some key.0) (both (part x.1) rest)) None)) good' in
      let lens : len_of (both (Some key.0) (both (part x.1) rest)) ≡ sum_len (len_of (Some key.0)) (sum_len (len_of (part x.1)) (len_of rest)) = len-both (Some key.0) (both (part x.1) rest) ∙ ap (λ (n : Option ℕ). sum_len (len_of (Some key.0)) n) (len-both (part x.1) rest) in
      let left : sum_len (sum_len total (sum_len (len_of (part x.0)) (len_of (part x.1)))) (len_of (spell_pairs g part (text_or (part x.0)) (drop (i + 1) pairs))) ≡ sum_len (sum_len total (sum_len (len_of (Some key.0)) (len_of (part x.1)))) (len_of rest) =
      λ n. sum_len (sum_len total (sum_len (len_of (key.1 n)) (len_of (part x.1)))) (len_of (spell_pairs g part (text_or (key.1 n)) (drop (i + 1) pairs))) in
      left ∙ sum-assoc total (sum_len (len_of (Some key.0)) (len_of (part x.1))) (len_of rest)
      ∙ ap (λ (n : Option ℕ). sum_len total n) (sum-assoc (len_of (Some key.0)) (len_of (part x.1)) (len_of rest) ∙ sym (at_pair ∙ here ∙ lens))

pub pairs-none : (g : Grammar) (part : Writer) (last : List ℕ) (pairs : List (Item × Item)) (i : ℕ) → length pairs ≤ i → len_of (spell_pairs g part last (drop i pairs)) ≡ Some 0
unfolding spell_pairs
pairs-none g part last pairs i le = ap (λ (l : List (Item × Item)). len_of (spell_pairs g part last l)) (drop_all i pairs le)

-- ---- what follows a head

bytes_fit : (g : Grammar) (room : ℕ) (l : Layer) → is_allowed g room l ≡ true → len_of (Some (bytes_of l)) ≡ Some (length (bytes_of l))
bytes_fit g room l e = let le = short-bytes g room l e in len-fits (bytes_of l) (omega arith)

pub content-leaf : (g : Grammar) (room : ℕ) (l : Layer) → room ≡ 0 → is_allowed g room l ≡ true → len_of (content_layer g (writer_in g room) l) ≡ sum_len (Some (length (bytes_of l))) (Some 0)
unfolding spell_each spell_pairs
content-leaf g room l none e =
    let e' = subst (λ (k : ℕ). is_allowed g k l ≡ true) none e in
    let part = writer_in g room in
    len-both (Some (bytes_of l)) (both (spell_each part (items_of l)) (spell_pairs g part [] (pairs_of l)))
    ∙ (λ i. sum_len (bytes_fit g room l e i) (len_of (both (spell_each part (no-items g l e' i)) (spell_pairs g part [] (no-pairs g l e' i)))))

pub content-parts : (g : Grammar) (room : ℕ) (l : Layer) → 0 < room → is_allowed g room l ≡ true
    → len_of (content_layer g (writer_in g room) l) ≡ sum_len (Some (length (bytes_of l))) (sum_len (len_of (spell_each (spell_in g (room - 1)) (items_of l))) (len_of (spell_pairs g (spell_in g (room - 1)) [] (pairs_of l))))
content-parts g room l lt e =
    let part = writer_in g room in
    let items = spell_each part (items_of l) in
    let pairs = spell_pairs g part [] (pairs_of l) in
    let below = writer-below g room lt in
    len-both (Some (bytes_of l)) (both items pairs) ∙ (λ i. sum_len (bytes_fit g room l e i) (len-both items pairs i))
    ∙ (λ i. sum_len (Some (length (bytes_of l))) (sum_len (len_of (spell_each (below i) (items_of l))) (len_of (spell_pairs g (below i) [] (pairs_of l)))))

-- ---- a key behind the last one

pub free-follow : (g : Grammar) (last key : List ℕ) → is_strict g ≡ false → may_follow g last key ≡ true
free-follow g last key e = rw e refl

pub strict-follow : (g : Grammar) (last key : List ℕ) → is_strict g ≡ true → may_follow g last key ≡ is_below last key
strict-follow g last key e = rw e refl

pub none-follow : (g : Grammar) (room : ℕ) (o : Option (Bor Item)) (key : Item) → o ≡ None → is_strict g ≡ true → is_some (spell_in g room key) ≡ true → may_follow g (last_text g room o) (text_or (spell_in g room key)) ≡ true
none-follow g room o key e s k =
    ap (λ (p : Option (Bor Item)). may_follow g (last_text g room p) (text_or (spell_in g room key))) e ∙ strict-follow g [] (text_or (spell_in g room key)) s ∙ first-below g room key k

pub some-follow : (g : Grammar) (room : ℕ) (o : Option (Bor Item)) (last : Bor Item) (key : Item) (order : Ordering) → o ≡ Some last → IsLast g room o → is_strict g ≡ true → is_some (spell_in g room key) ≡ true → ComparesItems room order last.now key
    → is_lt order ≡ may_follow g (last_text g room o) (text_or (spell_in g room key))
some-follow g room o last key order e l s k compares =
    let there : is_some (spell_in g room last.now) ≡ true = subst (λ (p : Option (Bor Item)). IsLast g room p) e l in
    let a = some_of (spell_in g room last.now) there in
    let b = some_of (spell_in g room key) k in
    let below = Compares-below order a.0 b.0 (compares g a.0 b.0 a.1 b.1) in
    let texts : is_below (text_or (spell_in g room last.now)) (text_or (spell_in g room key)) ≡ is_below a.0 b.0 = λ i. is_below (text_or (a.1 i)) (text_or (b.1 i)) in
    sym (ap (λ (p : Option (Bor Item)). may_follow g (last_text g room p) (text_or (spell_in g room key))) e ∙ strict-follow g (text_or (spell_in g room last.now)) (text_or (spell_in g room key)) s ∙ texts ∙ below)
