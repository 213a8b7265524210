-- The strict spelling of an item is its shortest one, level by level.
use Rattle.std.proofs.Common.{◌≡◌, ℕ, zero, suc, ◌^◌, ◌<◌, ◌≤◌, Bool, true, cond, ◌&&◌, List, [], ◌∷◌, ◌++◌, length, Option, Some, None, refl, sym, ap, subst, ◌∙◌, inl, inr, arith, nat_lt, ltb-true, lt-ltb, le-leb, leb-true}
use Rattle.std.specs.Prelude.{nat_le}
use Rattle.std.specs.Str.{is_utf8}
use Rattle.std.proofs.lemmas.Str.{IsUtf8-from_is_utf8, is_utf8-from_IsUtf8}
use Rattle.std.proofs.lemmas.Bool.{and_parts, and_from, or_left, or_right, false≢true}
use Rattle.std.proofs.lemmas.List.{append-nil}
use Rattle.cbor_core.specs.declared.words.Grammar.TheVariants.{Strict}
use Rattle.cbor_core.specs.declared.heads.Size.{Size}
use Rattle.cbor_core.specs.declared.heads.Size.TheVariants.{Within, One}
use Rattle.cbor_core.specs.declared.tree.Item.{Item}
use Rattle.cbor_core.specs.declared.tree.Node.{Node-F, out-Node}
use Rattle.cbor_core.specs.Limits.{longest_string, most_parts}
use Rattle.cbor_core.specs.Head.{IsHead, head}
use Rattle.cbor_core.specs.Tree.{Layer}
use Rattle.cbor_core.specs.Spells.{Headed, SpellEach, SpellsLayer, SpellsIn}
use Rattle.cbor_core.specs.Encoding.{size_of, both, Writer, spell_each, spell_pairs, is_allowed, head_layer, head_text, bytes_of, items_of, pairs_of, content_layer, spell_layer, no_writer, spell_in, writer_in}
use Rattle.cbor_core.proofs.SpellParts.{some_is, simple_cases, layer-parts}
use Rattle.cbor_core.proofs.StrictLemmas.{head_is, head_fits, is_head, shortest-is, Writes, Written, each_writes, each_written, pairs_writes, pairs_written_all}

-- ---- what is spelled is written

module _ (room : ℕ) (Part : Item → List ℕ → Type 0) (part : Writer) where
  from_parts : (layer : Layer) (items pairs text : List ℕ) → is_allowed Strict room layer ≡ true → spell_each part (items_of layer) ≡ Some items → spell_pairs Strict part [] (pairs_of layer) ≡ Some pairs
      → text ≡ head_text (head_layer layer) ++ (bytes_of layer ++ (items ++ pairs)) → spell_layer Strict room part layer ≡ Some text
  from_parts layer items pairs text a i p e =
      ap (λ (b : Bool). cond b (both (Some (head_text (head_layer layer))) (content_layer Strict part layer)) None) a
      ∙ (λ n. both (Some (head_text (head_layer layer))) (both (Some (bytes_of layer)) (both (i n) (p n)))) ∙ ap (λ (t : List ℕ). Some t) (sym e)

  number_text : (major n : ℕ) (text : List ℕ) → IsHead Strict major n text → text ≡ head major (size_of n) n ++ ([] ++ ([] ++ []))
  number_text major n text h = head_is major n text h ∙ sym (append-nil (head major (size_of n) n))

  string_text : (major : ℕ) (bytes text : List ℕ) → Headed Strict major (length bytes) (λ r. r ≡ bytes) text → (length bytes < 2 ^ 64) × (text ≡ head major (size_of (length bytes)) (length bytes) ++ (bytes ++ ([] ++ [])))
  string_text major bytes text (front, rest, h, r, e) =
      (head_fits major (length bytes) front h, e ∙ (λ i. head_is major (length bytes) front h i ++ r i) ∙ ap (λ (t : List ℕ). head major (size_of (length bytes)) (length bytes) ++ t) (sym (append-nil bytes)))

  layer_writes : Writes Part part → (layer : Layer) (text : List ℕ) → SpellsLayer Strict room Part layer text → spell_layer Strict room part layer ≡ Some text
  unfolding spell_each spell_pairs
  layer_writes writes (Node-F.Uint n) text h = from_parts (Node-F.Uint n) [] [] text (lt-ltb n (2 ^ 64) (head_fits 0 n text h)) refl refl (number_text 0 n text h)
  layer_writes writes (Node-F.Nint n) text h = from_parts (Node-F.Nint n) [] [] text (lt-ltb n (2 ^ 64) (head_fits 1 n text h)) refl refl (number_text 1 n text h)
  layer_writes writes (Node-F.Bytes bytes) text (few, headed) = from_parts (Node-F.Bytes bytes) [] [] text (le-leb (length bytes) longest_string few) refl refl (string_text 2 bytes text headed).1
  layer_writes writes (Node-F.Text bytes) text (few, utf8, headed) =
      from_parts (Node-F.Text bytes) [] [] text (and_from (nat_le (length bytes) longest_string) (is_utf8 bytes) (le-leb (length bytes) longest_string few) (is_utf8-from_IsUtf8 bytes utf8)) refl refl (string_text 3 bytes text headed).1
  layer_writes writes (Node-F.Array items) text (deep, few, (front, rest, h, each, e)) =
      from_parts (Node-F.Array items) rest [] text (and_from (nat_lt 0 room) (nat_le (length items) most_parts) (lt-ltb 0 room deep) (le-leb (length items) most_parts few)) (each_writes Part part writes items rest each) refl
      (e ∙ (λ i. head_is 4 (length items) front h i ++ sym (append-nil rest) i))
  layer_writes writes (Node-F.Map pairs) text (deep, few, (front, rest, h, each, e)) =
      from_parts (Node-F.Map pairs) [] rest text (and_from (nat_lt 0 room) (nat_le (length pairs) most_parts) (lt-ltb 0 room deep) (le-leb (length pairs) most_parts few)) refl (pairs_writes Part part writes pairs [] [] rest each)
      (e ∙ ap (λ (t : List ℕ). t ++ rest) (head_is 5 (length pairs) front h))
  layer_writes writes (Node-F.Tag n item) text (deep, (front, rest, h, p, e)) =
      from_parts (Node-F.Tag n item) (rest ++ []) [] text (and_from (nat_lt 0 room) (nat_lt n (2 ^ 64)) (lt-ltb 0 room deep) (lt-ltb n (2 ^ 64) (head_fits 6 n front h))) (ap (λ (o : Option (List ℕ)). both o (Some [])) (writes item rest p)) refl
      (e ∙ (λ i. head_is 6 n front h i ++ (sym (append-nil rest) ∙ sym (append-nil (rest ++ []))) i))
  layer_writes writes (Node-F.Simple n) text (inl (lt, e)) =
      from_parts (Node-F.Simple n) [] [] text (or_left (nat_lt n 24) (nat_le 32 n && nat_lt n (2 ^ 8)) (lt-ltb n 24 lt)) refl refl
      (e ∙ ap (λ (s : Size). head 7 s n) (sym (shortest-is Within n (omega arith) lt)) ∙ sym (append-nil (head 7 (size_of n) n)))
  layer_writes writes (Node-F.Simple n) text (inr (ge, lt, e)) =
      from_parts (Node-F.Simple n) [] [] text (or_right (nat_lt n 24) (nat_le 32 n && nat_lt n (2 ^ 8)) (and_from (nat_le 32 n) (nat_lt n (2 ^ 8)) (le-leb 32 n ge) (lt-ltb n (2 ^ 8) lt))) refl refl
      (e ∙ ap (λ (s : Size). head 7 s n) (sym (shortest-is One n (omega arith) lt)) ∙ sym (append-nil (head 7 (size_of n) n)))
  layer_writes writes (Node-F.Float width bits) text h = absurd h

-- ---- what is written is spelled

module _ (room : ℕ) (Part : Item → List ℕ → Type 0) where
  part : Writer
  part = writer_in Strict room

  -- nothing but the string follows the head
  bare : (bytes items pairs : List ℕ) → [] ≡ items → [] ≡ pairs → bytes ++ (items ++ pairs) ≡ bytes
  bare bytes items pairs i p = (λ n. bytes ++ (sym i n ++ sym p n)) ∙ append-nil bytes

  tag_spelled : (n : ℕ) (item : Item) (text items pairs : List ℕ) → 0 < room → n < 2 ^ 64 → SpellEach Part (item ∷ []) items → [] ≡ pairs → text ≡ head 6 (size_of n) n ++ (items ++ pairs) → SpellsLayer Strict room Part (Node-F.Tag n item) text
  unfolding SpellEach
  tag_spelled n item text items pairs deep lt (front, rest, p, none, e) no_pairs whole =
      let only : items ++ pairs ≡ front = (λ i. e i ++ sym no_pairs i) ∙ append-nil (front ++ rest) ∙ ap (λ (t : List ℕ). front ++ t) none ∙ append-nil front in
      (deep, (head 6 (size_of n) n, front, is_head 6 n lt, p, whole ∙ ap (λ (t : List ℕ). head 6 (size_of n) n ++ t) only))

  layer_written : Writes Part (writer_in Strict room) → Written Part (writer_in Strict room) → (layer : Layer) (text : List ℕ) → spell_layer Strict room (writer_in Strict room) layer ≡ Some text → SpellsLayer Strict room Part layer text
  unfolding spell_each spell_pairs
  layer_written writes written (Node-F.Uint n) text e =
      let p = layer-parts Strict room (Node-F.Uint n) text e in
      let lt = ltb-true n (2 ^ 64) p.allowed in
      let is : text ≡ head 0 (size_of n) n = p.whole ∙ ap (λ (t : List ℕ). head 0 (size_of n) n ++ t) (bare [] p.items p.pairs (some_is [] p.items p.items_is) (some_is [] p.pairs p.pairs_is)) ∙ append-nil (head 0 (size_of n) n) in
      subst (λ (t : List ℕ). IsHead Strict 0 n t) (sym is) (is_head 0 n lt)
  layer_written writes written (Node-F.Nint n) text e =
      let p = layer-parts Strict room (Node-F.Nint n) text e in
      let lt = ltb-true n (2 ^ 64) p.allowed in
      let is : text ≡ head 1 (size_of n) n = p.whole ∙ ap (λ (t : List ℕ). head 1 (size_of n) n ++ t) (bare [] p.items p.pairs (some_is [] p.items p.items_is) (some_is [] p.pairs p.pairs_is)) ∙ append-nil (head 1 (size_of n) n) in
      subst (λ (t : List ℕ). IsHead Strict 1 n t) (sym is) (is_head 1 n lt)
  layer_written writes written (Node-F.Bytes bytes) text e =
      let p = layer-parts Strict room (Node-F.Bytes bytes) text e in
      let few : length bytes ≤ longest_string = leb-true (length bytes) longest_string p.allowed in
      let n = length bytes in
      (few, (head 2 (size_of n) n, bytes, is_head 2 n (omega arith), refl, p.whole ∙ ap (λ (t : List ℕ). head 2 (size_of n) n ++ t) (bare bytes p.items p.pairs (some_is [] p.items p.items_is) (some_is [] p.pairs p.pairs_is))))
  layer_written writes written (Node-F.Text bytes) text e =
      let p = layer-parts Strict room (Node-F.Text bytes) text e in
      let a = and_parts (nat_le (length bytes) longest_string) (is_utf8 bytes) p.allowed in
      let few : length bytes ≤ longest_string = leb-true (length bytes) longest_string a.0 in
      let n = length bytes in
      (few, IsUtf8-from_is_utf8 bytes a.1, (head 3 (size_of n) n, bytes, is_head 3 n (omega arith), refl, p.whole ∙ ap (λ (t : List ℕ). head 3 (size_of n) n ++ t) (bare bytes p.items p.pairs (some_is [] p.items p.items_is) (some_is [] p.pairs p.pairs_is))))
  layer_written writes written (Node-F.Array items) text e =
      let p = layer-parts Strict room (Node-F.Array items) text e in
      let a = and_parts (nat_lt 0 room) (nat_le (length items) most_parts) p.allowed in
      let few : length items ≤ most_parts = leb-true (length items) most_parts a.1 in
      let n = length items in
      let no_pairs : [] ≡ p.pairs = some_is [] p.pairs p.pairs_is in
      (ltb-true 0 room a.0, few, (head 4 (size_of n) n, p.items, is_head 4 n (omega arith), each_written Part (writer_in Strict room) written items p.items p.items_is, p.whole ∙ (λ i. head 4 (size_of n) n ++ (p.items ++ sym no_pairs i)) ∙ ap (λ (t : List ℕ). head 4 (size_of n) n ++ t) (append-nil p.items)))
  layer_written writes written (Node-F.Map pairs) text e =
      let p = layer-parts Strict room (Node-F.Map pairs) text e in
      let a = and_parts (nat_lt 0 room) (nat_le (length pairs) most_parts) p.allowed in
      let few : length pairs ≤ most_parts = leb-true (length pairs) most_parts a.1 in
      let n = length pairs in
      let no_items : [] ≡ p.items = some_is [] p.items p.items_is in
      (ltb-true 0 room a.0, few, (head 5 (size_of n) n, p.pairs, is_head 5 n (omega arith), pairs_written_all Part (writer_in Strict room) writes written pairs p.pairs p.pairs_is, p.whole ∙ (λ i. head 5 (size_of n) n ++ (sym no_items i ++ p.pairs))))
  layer_written writes written (Node-F.Tag n item) text e =
      let p = layer-parts Strict room (Node-F.Tag n item) text e in
      let a = and_parts (nat_lt 0 room) (nat_lt n (2 ^ 64)) p.allowed in
      let s = each_written Part (writer_in Strict room) written (item ∷ []) p.items p.items_is in
      let no_pairs : [] ≡ p.pairs = some_is [] p.pairs p.pairs_is in
      tag_spelled n item text p.items p.pairs (ltb-true 0 room a.0) (ltb-true n (2 ^ 64) a.1) s no_pairs p.whole
  layer_written writes written (Node-F.Simple n) text e =
      let p = layer-parts Strict room (Node-F.Simple n) text e in
      let is : text ≡ head 7 (size_of n) n = p.whole ∙ ap (λ (t : List ℕ). head 7 (size_of n) n ++ t) (bare [] p.items p.pairs (some_is [] p.items p.items_is) (some_is [] p.pairs p.pairs_is)) ∙ append-nil (head 7 (size_of n) n) in
      elim (simple_cases n p.allowed) [
        | inl lt ↦ inl (lt, is ∙ ap (λ (s : Size). head 7 s n) (shortest-is Within n (omega arith) lt))
        | inr (ge, lt) ↦ inr (ge, lt, is ∙ ap (λ (s : Size). head 7 s n) (shortest-is One n (omega arith) lt))
      ]
  layer_written writes written (Node-F.Float width bits) text e = let p = layer-parts Strict room (Node-F.Float width bits) text e in absurd (false≢true p.allowed)

-- ---- at every depth

none_writes : Writes (λ _ _. ⊥) no_writer
none_writes item text p = absurd p

none_written : Written (λ _ _. ⊥) no_writer
none_written item text e = absurd cc

pub spell-is : (room : ℕ) → Writes (SpellsIn Strict room) (spell_in Strict room)
unfolding SpellsIn spell_in
spell-is zero item text s = layer_writes 0 (λ _ _. ⊥) no_writer none_writes (out-Node item.node) text s
spell-is (suc room) item text s = layer_writes (suc room) (SpellsIn Strict room) (spell_in Strict room) (spell-is room) (out-Node item.node) text s

pub spell-spells : (room : ℕ) → Written (SpellsIn Strict room) (spell_in Strict room)
unfolding SpellsIn spell_in
spell-spells zero item text e = layer_written 0 (λ _ _. ⊥) none_writes none_written (out-Node item.node) text e
spell-spells (suc room) item text e = layer_written (suc room) (SpellsIn Strict room) (spell-is room) (spell-spells room) (out-Node item.node) text e
