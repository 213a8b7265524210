-- The steps of a comparison of items.
use Rattle.std.proofs.Common.{◌≡◌, ℕ, ◌+◌, ◌-◌, ◌<◌, ◌≤◌, ◌⊎◌, List, [], ◌∷◌, length, get_or, drop, refl, sym, ap, subst, ◌∙◌, inl, inr, arith, Ordering}
use Rattle.std.specs.declared.cmp.Ordering.TheVariants.{Less, Equal, Greater}
use Rattle.std.specs.Ordering.{ordering_then}
use Rattle.std.proofs.lemmas.List.{drop_more, drop_all, length-drop}
use Rattle.cbor_core.specs.declared.heads.Head.{Head}
use Rattle.cbor_core.specs.declared.tree.Item.{Item}
use Rattle.cbor_core.specs.declared.tree.Node.{Node-F, out-Node}
use Rattle.cbor_core.specs.Tree.{Layer}
use Rattle.cbor_core.specs.Encoding.{short, spell_in, head_layer, head_text, bytes_of, items_of, pairs_of, flat, IsWhole, Compares, ComparesFronts, ComparesItems, ComparesEach}
use Rattle.cbor_core.proofs.SpellParts.{some_is}
use Rattle.cbor_core.proofs.CompareLemmas.{item-compares, each-then, each-end, each-decides}

then_first : (o p : Ordering) → (o ≡ Equal → ⊥) → ordering_then o p ≡ o
then_first Less p ne = refl
then_first Equal p ne = absurd (ne refl)
then_first Greater p ne = refl

then_next : (o p : Ordering) → o ≡ Equal → ordering_then o p ≡ p
then_next o p e = ap (λ (x : Ordering). ordering_then x p) e

pub heads_from : (h k i j : Head) (o : Ordering) → h ≡ i → k ≡ j → (IsWhole h → IsWhole k → Compares o (head_text h) (head_text k)) → IsWhole i → IsWhole j → Compares o (head_text i) (head_text j)
heads_from h k i j o e f fact = subst (λ (x : Head × Head). IsWhole x.0 → IsWhole x.1 → Compares o (head_text x.0) (head_text x.1)) (λ n. (e n, f n)) fact

abbrev HeadsCompare : Ordering → Item → Item → Type 0
HeadsCompare o a b = IsWhole (head_layer (out-Node a.node)) → IsWhole (head_layer (out-Node b.node)) → Compares o (head_text (head_layer (out-Node a.node))) (head_text (head_layer (out-Node b.node)))

module _ (room : ℕ) (a b : Item) (heads : Ordering) (by_head : HeadsCompare heads a b) where
  pub heads-decide : (heads ≡ Equal → ⊥) → ComparesItems room heads a b
  heads-decide ne =
      subst (λ (o : Ordering). ComparesItems room o a b) (then_first heads (ordering_then Equal (ordering_then Equal Equal)) ne)
      (item-compares room a b heads Equal Equal Equal by_head (λ e. absurd (ne e)) (λ e. absurd (ne e)) (λ e. absurd (ne e)) (λ _. (refl, refl)))

  module _ (same : heads ≡ Equal) (bytes : Ordering) (by_bytes : ComparesFronts bytes (bytes_of (out-Node a.node)) (bytes_of (out-Node b.node))) where
    pub bytes-decide : (bytes ≡ Equal → ⊥) → ComparesItems room bytes a b
    bytes-decide ne =
        subst (λ (o : Ordering). ComparesItems room o a b) (then_next heads (ordering_then bytes (ordering_then Equal Equal)) same ∙ then_first bytes (ordering_then Equal Equal) ne)
        (item-compares room a b heads bytes Equal Equal by_head (λ _. by_bytes) (λ _ e. absurd (ne e)) (λ _ e. absurd (ne e)) (λ _. (refl, refl)))

    pub nothing-more : bytes ≡ Equal → room ≡ 0 → ComparesItems room Equal a b
    nothing-more e none =
        subst (λ (o : Ordering). ComparesItems room o a b) (then_next heads (ordering_then bytes (ordering_then Equal Equal)) same ∙ then_next bytes (ordering_then Equal Equal) e)
        (item-compares room a b heads bytes Equal Equal by_head (λ _. by_bytes) (λ _ _ lt. absurd (omega arith)) (λ _ _ _ lt. absurd (omega arith)) (λ _. (refl, refl)))

    module _ (same_bytes : bytes ≡ Equal) (items : Ordering) (by_items : ComparesEach (room - 1) items (items_of (out-Node a.node)) (items_of (out-Node b.node))) (opens : room ≡ 0 → ⊥) where
      pub items-decide : (items ≡ Equal → ⊥) → ComparesItems room items a b
      items-decide ne =
          subst (λ (o : Ordering). ComparesItems room o a b) (then_next heads (ordering_then bytes (ordering_then items Equal)) same ∙ then_next bytes (ordering_then items Equal) same_bytes ∙ then_first items Equal ne)
          (item-compares room a b heads bytes items Equal by_head (λ _. by_bytes) (λ _ _ _. by_items) (λ _ _ e. absurd (ne e)) (λ z. absurd (opens z)))

      pub pairs-decide : items ≡ Equal → (pairs : Ordering) → ComparesEach (room - 1) pairs (flat (pairs_of (out-Node a.node))) (flat (pairs_of (out-Node b.node))) → ComparesItems room pairs a b
      pairs-decide e pairs by_pairs =
          subst (λ (o : Ordering). ComparesItems room o a b) (then_next heads (ordering_then bytes (ordering_then items pairs)) same ∙ then_next bytes (ordering_then items pairs) same_bytes ∙ then_next items pairs e)
          (item-compares room a b heads bytes items pairs by_head (λ _. by_bytes) (λ _ _ _. by_items) (λ _ _ _ _. by_pairs) (λ z. absurd (opens z)))

-- ---- a loop over items

pub drop_item : {A : Type 0} (xs : List A) (i : ℕ) (x : A) → i < length xs → x ≡ get_or xs i x → drop i xs ≡ x ∷ drop (i + 1) xs
drop_item xs i x lt e = drop_more xs i x lt ∙ ap (λ y. y ∷ drop (i + 1) xs) (sym e)

module _ (room : ℕ) (a b : List Item) (i : ℕ) (x y : Item) (la : i < length a) (lb : i < length b) (ex : x ≡ get_or a i x) (ey : y ≡ get_or b i y) where
  at_items : (o : Ordering) → ComparesEach room o (x ∷ drop (i + 1) a) (y ∷ drop (i + 1) b) → ComparesEach room o (drop i a) (drop i b)
  at_items o h = subst (λ (p : List Item × List Item). ComparesEach room o p.0 p.1) (λ n. (sym (drop_item a i x la ex) n, sym (drop_item b i y lb ey) n)) h

  pub item-decides : (p : Ordering) → (p ≡ Equal → ⊥) → ComparesItems room p x y → ComparesEach room p (drop i a) (drop i b)
  item-decides p ne h = at_items p (each-decides room p x y (drop (i + 1) a) (drop (i + 1) b) ne h)

  pub item-goes : (p o : Ordering) → p ≡ Equal → ComparesItems room p x y → ComparesEach room o (drop (i + 1) a) (drop (i + 1) b) → ComparesEach room o (drop i a) (drop i b)
  item-goes p o e h more = at_items o (each-then room Equal o x y (drop (i + 1) a) (drop (i + 1) b) (subst (λ (q : Ordering). ComparesItems room q x y) e h) (λ _. more))

pub items-end : (room : ℕ) (a b : List Item) (i : ℕ) → (length a ≤ i) ⊎ (length b ≤ i) → ComparesEach room Equal (drop i a) (drop i b)
items-end room a b i h = each-end room (drop i a) (drop i b) (elim h [ inl le ↦ inl (omega (arith, length-drop i a)) | inr le ↦ inr (omega (arith, length-drop i b)) ])

-- ---- a loop over pairs

abbrev Pair : Type 0
Pair = Item × Item

module _ (room : ℕ) (a b : List Pair) (i : ℕ) (x y : Pair) (la : i < length a) (lb : i < length b) (ex : x ≡ get_or a i x) (ey : y ≡ get_or b i y) where
  at_pairs : (o : Ordering) → ComparesEach room o (x.0 ∷ x.1 ∷ flat (drop (i + 1) a)) (y.0 ∷ y.1 ∷ flat (drop (i + 1) b)) → ComparesEach room o (flat (drop i a)) (flat (drop i b))
  at_pairs o h = subst (λ (p : List Pair × List Pair). ComparesEach room o (flat p.0) (flat p.1)) (λ n. (sym (drop_item a i x la ex) n, sym (drop_item b i y lb ey) n)) h

  pub key-decides : (p : Ordering) → (p ≡ Equal → ⊥) → ComparesItems room p x.0 y.0 → ComparesEach room p (flat (drop i a)) (flat (drop i b))
  key-decides p ne h = at_pairs p (each-decides room p x.0 y.0 (x.1 ∷ flat (drop (i + 1) a)) (y.1 ∷ flat (drop (i + 1) b)) ne h)

  pub value-decides : (k p : Ordering) → k ≡ Equal → ComparesItems room k x.0 y.0 → (p ≡ Equal → ⊥) → ComparesItems room p x.1 y.1 → ComparesEach room p (flat (drop i a)) (flat (drop i b))
  value-decides k p e key ne h =
      at_pairs p (each-then room Equal p x.0 y.0 (x.1 ∷ flat (drop (i + 1) a)) (y.1 ∷ flat (drop (i + 1) b)) (subst (λ (q : Ordering). ComparesItems room q x.0 y.0) e key) (λ _. each-decides room p x.1 y.1 (flat (drop (i + 1) a)) (flat (drop (i + 1) b)) ne h))

  pub pair-goes : (k v o : Ordering) → k ≡ Equal → ComparesItems room k x.0 y.0 → v ≡ Equal → ComparesItems room v x.1 y.1 → ComparesEach room o (flat (drop (i + 1) a)) (flat (drop (i + 1) b)) → ComparesEach room o (flat (drop i a)) (flat (drop i b))
  pair-goes k v o e key f value more =
      at_pairs o (each-then room Equal o x.0 y.0 (x.1 ∷ flat (drop (i + 1) a)) (y.1 ∷ flat (drop (i + 1) b)) (subst (λ (q : Ordering). ComparesItems room q x.0 y.0) e key)
      (λ _. each-then room Equal o x.1 y.1 (flat (drop (i + 1) a)) (flat (drop (i + 1) b)) (subst (λ (q : Ordering). ComparesItems room q x.1 y.1) f value) (λ _. more)))

flat_none : (a : List Pair) (i : ℕ) → length a ≤ i → length (flat (drop i a)) ≡ 0
flat_none a i le = ap (λ (p : List Pair). length (flat p)) (drop_all i a le)

pub pairs-end : (room : ℕ) (a b : List Pair) (i : ℕ) → (length a ≤ i) ⊎ (length b ≤ i) → ComparesEach room Equal (flat (drop i a)) (flat (drop i b))
pairs-end room a b i h = each-end room (flat (drop i a)) (flat (drop i b)) (elim h [ inl le ↦ inl (flat_none a i le) | inr le ↦ inr (flat_none b i le) ])

-- ---- two items whose heads are equal

then_last : (o : Ordering) → ordering_then o Equal ≡ o
then_last Less = refl
then_last Equal = refl
then_last Greater = refl

-- equal items compare so
pub same-compares : (a b : Item) → a ≡ b → (room : ℕ) → ComparesItems room Equal a b
same-compares a b e room g s t es et = some_is s t (sym es ∙ ap (λ (x : Item). spell_in g room x) e ∙ et)

each-one : (room : ℕ) (o : Ordering) (x y : Item) → ComparesItems room o x y → ComparesEach room o (x ∷ []) (y ∷ [])
each-one room Less x y h = each-decides room Less x y [] [] (λ e. absurd cc) h
each-one room Equal x y h = each-then room Equal Equal x y [] [] h (λ _. each-end room [] [] (inl (omega arith)))
each-one room Greater x y h = each-decides room Greater x y [] [] (λ e. absurd cc) h

heads-equal : (a b : Item) (la lb : Layer) → out-Node a.node ≡ la → out-Node b.node ≡ lb → head_layer la ≡ head_layer lb → HeadsCompare Equal a b
heads-equal a b la lb ea eb e _ _ = ap (λ (l : Layer). head_text (head_layer l)) ea ∙ ap head_text e ∙ ap (λ (l : Layer). head_text (head_layer l)) (sym eb)

module _ (room : ℕ) (a b : Item) (opens : 0 < room) where
  none : {A : Type 0} (f : Layer → List A) (l : Layer) (item : Item) → out-Node item.node ≡ l → f l ≡ [] → f (out-Node item.node) ≡ []
  none f l item is e = ap f is ∙ e

  -- nothing but items, or nothing but pairs, follows the heads
  inside : (la lb : Layer) → out-Node a.node ≡ la → out-Node b.node ≡ lb → head_layer la ≡ head_layer lb → bytes_of la ≡ bytes_of lb → (items pairs : Ordering) → ComparesEach (room - 1) items (items_of la) (items_of lb) → ComparesEach (room - 1) pairs (flat (pairs_of la)) (flat (pairs_of lb))
      → ComparesItems room (ordering_then items pairs) a b
  inside la lb ea eb heads bytes items pairs by_items by_pairs =
      item-compares room a b Equal Equal items pairs (heads-equal a b la lb ea eb heads)
      (λ _. ap bytes_of ea ∙ bytes ∙ ap bytes_of (sym eb))
      (λ _ _ _. subst (λ (l : Layer × Layer). ComparesEach (room - 1) items (items_of l.0) (items_of l.1)) (λ i. (sym ea i, sym eb i)) by_items)
      (λ _ _ _ _. subst (λ (l : Layer × Layer). ComparesEach (room - 1) pairs (flat (pairs_of l.0)) (flat (pairs_of l.1))) (λ i. (sym ea i, sym eb i)) by_pairs)
      (λ z. absurd (omega arith))

  nothing : ComparesEach (room - 1) Equal [] []
  nothing = each-end (room - 1) [] [] (inl (omega arith))

  pub array-inside : (s t : List Item) (o : Ordering) → out-Node a.node ≡ Node-F.Array s → out-Node b.node ≡ Node-F.Array t → length s ≡ length t → ComparesEach (room - 1) o s t → ComparesItems room o a b
  array-inside s t o ea eb len h =
      subst (λ (p : Ordering). ComparesItems room p a b) (then_last o) (inside (Node-F.Array s) (Node-F.Array t) ea eb (ap (λ (n : ℕ). short 4 n) len) refl o Equal h nothing)

  pub map-inside : (s t : List Pair) (o : Ordering) → out-Node a.node ≡ Node-F.Map s → out-Node b.node ≡ Node-F.Map t → length s ≡ length t → ComparesEach (room - 1) o (flat s) (flat t) → ComparesItems room o a b
  map-inside s t o ea eb len h = inside (Node-F.Map s) (Node-F.Map t) ea eb (ap (λ (n : ℕ). short 5 n) len) refl Equal o nothing h

  pub tag-inside : (m n : ℕ) (x y : Item) (o : Ordering) → out-Node a.node ≡ Node-F.Tag m x → out-Node b.node ≡ Node-F.Tag n y → m ≡ n → ComparesItems (room - 1) o x y → ComparesItems room o a b
  tag-inside m n x y o ea eb e h =
      subst (λ (p : Ordering). ComparesItems room p a b) (then_last o) (inside (Node-F.Tag m x) (Node-F.Tag n y) ea eb (ap (λ (k : ℕ). short 6 k) e) refl o Equal (each-one (room - 1) o x y h) nothing)
