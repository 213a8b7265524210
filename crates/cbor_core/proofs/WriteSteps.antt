-- The steps of writing an item.
use Rattle.std.proofs.Common.{◌≡◌, ℕ, ◌+◌, ◌-◌, ◌<◌, ◌≤◌, true, List, [], ◌++◌, length, get_or, take, drop, Option, Some, None, refl, sym, ap, subst, ◌∙◌, arith, append_assoc}
use Rattle.std.specs.Prelude.{is_some}
use Rattle.std.proofs.lemmas.List.{append-nil, length-append, drop_all}
use Rattle.cbor_core.specs.declared.words.Grammar.{Grammar}
use Rattle.cbor_core.specs.declared.tree.Item.{Item}
use Rattle.cbor_core.specs.declared.tree.Node.{out-Node}
use Rattle.cbor_core.specs.Tree.{Layer}
use Rattle.cbor_core.specs.Encoding.{both, Writer, is_allowed, bytes_of, items_of, pairs_of, head_text, head_layer, spell_each, spell_pairs, spell_in, writer_in, text_or, flat, IsWhole, HasRoomFor, Puts}
use Rattle.cbor_core.proofs.LengthSteps.{some_of}
use Rattle.cbor_core.proofs.CompareSteps.{drop_item}
use Rattle.cbor_core.proofs.SpellParts.{Parts, item-parts, whole-layer, no-items, no-pairs, writer-below, flat-some, some_is}

-- one text and then another
pub Puts-then : (a b : List ℕ) (at mid end : ℕ) (old between new : List ℕ) → Puts (Some a) at old between mid → Puts (Some b) mid between new end → Puts (Some (a ++ b)) at old new end
Puts-then a b at mid end old between new p q =
    (omega (arith, p.0, q.0, length-append a b), q.1 ∙ ap (λ (t : List ℕ). t ++ b) p.1 ∙ append_assoc (take at old) a b)

-- the parts of an item that is there
pub parts_of : (g : Grammar) (room : ℕ) (item : Item) → is_some (spell_in g room item) ≡ true → Parts g room (out-Node item.node) (text_or (spell_in g room item))
parts_of g room item e =
    let t = some_of (spell_in g room item) e in
    item-parts g room item (text_or (spell_in g room item)) (t.1 ∙ ap (λ (o : Option (List ℕ)). Some (text_or o)) (sym t.1))

module _ (g : Grammar) (room : ℕ) (item : Item) (at len : ℕ) (r : HasRoomFor (spell_in g room item) at len) where
  layer : Layer
  layer = out-Node item.node

  pub head-whole : IsWhole (head_layer (out-Node item.node))
  head-whole = whole-layer g room (out-Node item.node) (parts_of g room item r.0).allowed

  pub room-head : at + length (head_text (head_layer (out-Node item.node))) ≤ len
  room-head =
      let p = parts_of g room item r.0 in
      omega (arith, r.1, ap length p.whole, length-append (head_text (head_layer (out-Node item.node))) (bytes_of (out-Node item.node) ++ (p.items ++ p.pairs)))

  pub room-bytes : (mid : ℕ) → mid ≡ at + length (head_text (head_layer (out-Node item.node))) → mid + length (bytes_of (out-Node item.node)) ≤ len
  room-bytes mid e =
      let p = parts_of g room item r.0 in
      omega (arith, r.1, ap length p.whole, length-append (head_text (head_layer (out-Node item.node))) (bytes_of (out-Node item.node) ++ (p.items ++ p.pairs)), length-append (bytes_of (out-Node item.node)) (p.items ++ p.pairs))

  items_there : 0 < room → spell_each (spell_in g (room - 1)) (items_of (out-Node item.node)) ≡ Some (parts_of g room item r.0).items
  items_there lt = ap (λ (w : Writer). spell_each w (items_of (out-Node item.node))) (sym (writer-below g room lt)) ∙ (parts_of g room item r.0).items_is

  pairs_there : 0 < room → spell_each (spell_in g (room - 1)) (flat (pairs_of (out-Node item.node))) ≡ Some (parts_of g room item r.0).pairs
  pairs_there lt =
      let p = parts_of g room item r.0 in
      ap (λ (w : Writer). spell_each w (flat (pairs_of (out-Node item.node)))) (sym (writer-below g room lt)) ∙ flat-some g (writer_in g room) [] (pairs_of (out-Node item.node)) p.pairs p.pairs_is

  pub room-items : (mid end : ℕ) → 0 < room → mid ≡ at + length (head_text (head_layer (out-Node item.node))) → end ≡ mid + length (bytes_of (out-Node item.node)) → HasRoomFor (spell_each (spell_in g (room - 1)) (items_of (out-Node item.node))) end len
  room-items mid end lt e f =
      let p = parts_of g room item r.0 in
      let le : end + length p.items ≤ len = omega (arith, r.1, ap length p.whole, length-append (head_text (head_layer (out-Node item.node))) (bytes_of (out-Node item.node) ++ (p.items ++ p.pairs)), length-append (bytes_of (out-Node item.node)) (p.items ++ p.pairs), length-append p.items p.pairs) in
      subst (λ (o : Option (List ℕ)). HasRoomFor o end len) (sym (items_there lt)) (refl, le)

  pub room-pairs : (mid end last : ℕ) → 0 < room → mid ≡ at + length (head_text (head_layer (out-Node item.node))) → end ≡ mid + length (bytes_of (out-Node item.node)) → last ≡ end + length (text_or (spell_each (spell_in g (room - 1)) (items_of (out-Node item.node))))
      → HasRoomFor (spell_each (spell_in g (room - 1)) (flat (pairs_of (out-Node item.node)))) last len
  room-pairs mid end last lt e f h =
      let p = parts_of g room item r.0 in
      let h' : last ≡ end + length p.items = h ∙ ap (λ (o : Option (List ℕ)). end + length (text_or o)) (items_there lt) in
      let le : last + length p.pairs ≤ len = omega (arith, r.1, ap length p.whole, length-append (head_text (head_layer (out-Node item.node))) (bytes_of (out-Node item.node) ++ (p.items ++ p.pairs)), length-append (bytes_of (out-Node item.node)) (p.items ++ p.pairs), length-append p.items p.pairs) in
      subst (λ (o : Option (List ℕ)). HasRoomFor o last len) (sym (pairs_there lt)) (refl, le)

  pub put-leaf : room ≡ 0 → (mid end : ℕ) (old between new : List ℕ) → Puts (Some (head_text (head_layer (out-Node item.node)))) at old between mid → Puts (Some (bytes_of (out-Node item.node))) mid between new end → Puts (spell_in g room item) at old new end
  unfolding spell_each spell_pairs
  put-leaf none mid end old between new p q =
      let parts = parts_of g room item r.0 in
      let h = head_text (head_layer (out-Node item.node)) in
      let b = bytes_of (out-Node item.node) in
      let allowed = subst (λ (k : ℕ). is_allowed g k (out-Node item.node) ≡ true) none parts.allowed in
      let no_items : [] ≡ parts.items = some_is [] parts.items (ap (λ (l : List Item). spell_each (writer_in g room) l) (sym (no-items g (out-Node item.node) allowed)) ∙ parts.items_is) in
      let no_pairs : [] ≡ parts.pairs = some_is [] parts.pairs (ap (λ (l : List (Item × Item)). spell_pairs g (writer_in g room) [] l) (sym (no-pairs g (out-Node item.node) allowed)) ∙ parts.pairs_is) in
      let text : text_or (spell_in g room item) ≡ h ++ b = parts.whole ∙ (λ i. h ++ (b ++ (sym no_items i ++ sym no_pairs i))) ∙ ap (λ (t : List ℕ). h ++ t) (append-nil b) in
      subst (λ (t : List ℕ). Puts (Some t) at old new end) (sym text) (Puts-then h b at mid end old between new p q)

  pub put-whole : 0 < room → (mid end last final : ℕ) (old one two three new : List ℕ) → Puts (Some (head_text (head_layer (out-Node item.node)))) at old one mid → Puts (Some (bytes_of (out-Node item.node))) mid one two end
      → Puts (spell_each (spell_in g (room - 1)) (items_of (out-Node item.node))) end two three last → Puts (spell_each (spell_in g (room - 1)) (flat (pairs_of (out-Node item.node)))) last three new final → Puts (spell_in g room item) at old new final
  put-whole lt mid end last final old one two three new p q x y =
      let parts = parts_of g room item r.0 in
      let h = head_text (head_layer (out-Node item.node)) in
      let b = bytes_of (out-Node item.node) in
      let x' : Puts (Some parts.items) end two three last = subst (λ (o : Option (List ℕ)). Puts o end two three last) (items_there lt) x in
      let y' : Puts (Some parts.pairs) last three new final = subst (λ (o : Option (List ℕ)). Puts o last three new final) (pairs_there lt) y in
      let tail = Puts-then parts.items parts.pairs end last final two three new x' y' in
      let more = Puts-then b (parts.items ++ parts.pairs) mid end final one two new q tail in
      subst (λ (t : List ℕ). Puts (Some t) at old new final) (sym parts.whole) (Puts-then h (b ++ (parts.items ++ parts.pairs)) at mid final old one new p more)

-- ---- a loop over items

both_there : (a b : Option (List ℕ)) → is_some (both a b) ≡ true → (x : List ℕ) × (y : List ℕ) × (a ≡ Some x) × (b ≡ Some y)
both_there None b e = absurd cc
both_there (Some x) None e = absurd cc
both_there (Some x) (Some y) e = (x, y, refl, refl)

pub room-first : (a b : Option (List ℕ)) (at len : ℕ) → HasRoomFor (both a b) at len → HasRoomFor a at len
room-first None b at len r = let n : is_some {T = List ℕ} None ≡ true = r.0 in absurd cc
room-first (Some x) None at len r = let n : is_some {T = List ℕ} None ≡ true = r.0 in absurd cc
room-first (Some x) (Some y) at len r = (refl, omega (arith, r.1, length-append x y))

pub room-rest : (a b : Option (List ℕ)) (at end len : ℕ) → HasRoomFor (both a b) at len → end ≡ at + length (text_or a) → HasRoomFor b end len
room-rest None b at end len r e = let n : is_some {T = List ℕ} None ≡ true = r.0 in absurd cc
room-rest (Some x) None at end len r e = let n : is_some {T = List ℕ} None ≡ true = r.0 in absurd cc
room-rest (Some x) (Some y) at end len r e = (refl, omega (arith, r.1, length-append x y))

-- what is still to be put, behind what a buffer has up to this place, is what was to be put behind what it had up to that place
abbrev pub GoesOn : Option (List ℕ) → ℕ → List ℕ → Option (List ℕ) → ℕ → List ℕ → Type 0
GoesOn rest at new whole start old = (at + length (text_or rest) ≡ start + length (text_or whole)) × (take at new ++ text_or rest ≡ take start old ++ text_or whole)

pub goes-rest : (a b whole : Option (List ℕ)) (at end start : ℕ) (new next old : List ℕ) → is_some (both a b) ≡ true → GoesOn (both a b) at new whole start old → Puts a at new next end → GoesOn b end next whole start old
goes-rest None b whole at end start new next old e h p = let n : is_some {T = List ℕ} None ≡ true = e in absurd cc
goes-rest (Some x) None whole at end start new next old e h p = let n : is_some {T = List ℕ} None ≡ true = e in absurd cc
goes-rest (Some x) (Some y) whole at end start new next old e h p =
    (omega (arith, p.0, h.0, length-append x y), ap (λ (t : List ℕ). t ++ y) p.1 ∙ append_assoc (take at new) x y ∙ h.1)

pub goes-end : (whole : Option (List ℕ)) (at start : ℕ) (new old : List ℕ) → GoesOn (Some []) at new whole start old → Puts whole start old new at
goes-end whole at start new old h = (omega (arith, h.0), sym (append-nil (take at new)) ∙ h.1)

module _ (part : Writer) where
  pub items-here : (items : List Item) (i : ℕ) (x : Item) → i < length items → x ≡ get_or items i x → spell_each part (drop i items) ≡ both (part x) (spell_each part (drop (i + 1) items))
  unfolding spell_each
  items-here items i x lt e = ap (λ (l : List Item). spell_each part l) (drop_item items i x lt e)

  pub items-over : (items : List Item) (i : ℕ) → length items ≤ i → spell_each part (drop i items) ≡ Some []
  unfolding spell_each
  items-over items i le = ap (λ (l : List Item). spell_each part l) (drop_all i items le)

  pub pairs-here : (pairs : List (Item × Item)) (i : ℕ) (x : Item × Item) → i < length pairs → x ≡ get_or pairs i x → spell_each part (flat (drop i pairs)) ≡ both (part x.0) (both (part x.1) (spell_each part (flat (drop (i + 1) pairs))))
  unfolding spell_each
  pairs-here pairs i x lt e = ap (λ (l : List (Item × Item)). spell_each part (flat l)) (drop_item pairs i x lt e)

  pub pairs-over : (pairs : List (Item × Item)) (i : ℕ) → length pairs ≤ i → spell_each part (flat (drop i pairs)) ≡ Some []
  unfolding spell_each
  pairs-over pairs i le = ap (λ (l : List (Item × Item)). spell_each part (flat l)) (drop_all i pairs le)

pub both-rest : (a b : Option (List ℕ)) → is_some (both a b) ≡ true → is_some b ≡ true
both-rest a b e = let p = both_there a b e in rw p.3 refl
