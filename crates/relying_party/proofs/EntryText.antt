-- The bytes of an entry are its strict spelling.
use Rattle.std.proofs.Common.{◌≡◌, ℕ, suc, ◌<◌, ◌≤◌, ◌^◌, Bool, true, cond, ◌&&◌, List, [], ◌∷◌, ◌++◌, length, Option, Some, None, refl, sym, ap, ◌∙◌, lt-ltb, le-leb, arith, length-append}
use Rattle.std.specs.Prelude.{nat_le}
use Rattle.std.proofs.lemmas.List.{append-nil}
use Rattle.cbor_core.specs.declared.heads.Size.{Size}
use Rattle.cbor_core.specs.declared.heads.Size.TheVariants.{Within, One, Two, Four, Eight}
use Rattle.cbor_core.specs.declared.words.Grammar.TheVariants.{Strict}
use Rattle.cbor_core.specs.declared.tree.Item.{Item}
use Rattle.cbor_core.specs.declared.tree.Node.TheVariants.{outs-Array}
use Rattle.cbor_core.specs.Limits.{longest_string, most_parts}
use Rattle.cbor_core.specs.Head.{head}
use Rattle.cbor_core.specs.Tree.{Layer}
use Rattle.cbor_core.specs.Encoding.{size_of, head_size, both, Writer, spell_each, spell_pairs, spell_layer, spell_in, text_or}
use Rattle.cbor_core.specs.Fitting.{UintText, BytesText}
use Rattle.cbor_core.specs.Items.{uint_item, bytes_item, array_item}
use Rattle.relying_party.specs.Entries.{entry_bytes, entry_text, entry_len}

head_length : (major : ℕ) (size : Size) (n : ℕ) → length (head major size n) ≡ head_size size
head_length major Within n = refl
head_length major One n = refl
head_length major Two n = refl
head_length major Four n = refl
head_length major Eight n = refl

pub entry_length : (at rule : ℕ) (logged : List ℕ) → length (entry_text at rule logged) ≡ entry_len at rule (length logged)
entry_length at rule logged =
    let first = head 0 (size_of at) at in
    let second = head 0 (size_of rule) rule in
    let third = head 2 (size_of (length logged)) (length logged) in
    omega (
      arith,
      length-append first (second ++ (third ++ logged)),
      length-append second (third ++ logged),
      length-append third logged,
      head_length 0 (size_of at) at,
      head_length 0 (size_of rule) rule,
      head_length 2 (size_of (length logged)) (length logged),
    )

each_step : (part : Writer) (item : Item) (items : List Item) (a rest : List ℕ) → part item ≡ Some a → spell_each part items ≡ Some rest → spell_each part (item ∷ items) ≡ Some (a ++ rest)
unfolding spell_each
each_step part item items a rest p r = λ i. both (p i) (r i)

each_none : (part : Writer) → spell_each part [] ≡ Some []
unfolding spell_each
each_none part = refl

array_text : (room : ℕ) (items : List Item) (rest : List ℕ) → nat_le (length items) most_parts ≡ true → spell_each (spell_in Strict room) items ≡ Some rest
    → spell_in Strict (suc room) (array_item items) ≡ Some (head 4 (size_of (length items)) (length items) ++ (rest ++ []))
unfolding spell_in spell_pairs
array_text room items rest few e =
    let text = head 4 (size_of (length items)) (length items) in
    let whole : Option (List ℕ) → Option (List ℕ) = λ o. both (Some text) (both (Some []) (both o (Some []))) in
    ap (λ (l : Layer). spell_layer Strict (suc room) (spell_in Strict room) l) (outs-Array items)
    ∙ ap (λ (b : Bool). cond (b && nat_le (length items) most_parts) (whole (spell_each (spell_in Strict room) items)) None) (lt-ltb 0 (suc room) (omega arith))
    ∙ ap (λ (b : Bool). cond b (whole (spell_each (spell_in Strict room) items)) None) few
    ∙ ap whole e

module _ (uint : UintText) (bytes : BytesText) where
  number_text : (room n : ℕ) → n < 2 ^ 64 → spell_in Strict room (uint_item n) ≡ Some (head 0 (size_of n) n)
  number_text room n few = uint room n ∙ ap (λ (b : Bool). cond b (Some (head 0 (size_of n) n)) None) (lt-ltb n (2 ^ 64) few)

  string_text : (room : ℕ) (s : List ℕ) → length s ≤ longest_string → spell_in Strict room (bytes_item s) ≡ Some (head 2 (size_of (length s)) (length s) ++ s)
  string_text room s short = bytes room s ∙ ap (λ (b : Bool). cond b (Some (head 2 (size_of (length s)) (length s) ++ s)) None) (le-leb (length s) longest_string short)

  pub entry_is_text : (at rule : ℕ) (logged : List ℕ) → at < 2 ^ 64 → rule < 2 ^ 64 → length logged ≤ longest_string → entry_text at rule logged ≡ entry_bytes at rule logged
  unfolding entry_bytes
  entry_is_text at rule logged few small short =
      let part = spell_in Strict 15 in
      let first = head 0 (size_of at) at in
      let second = head 0 (size_of rule) rule in
      let third = head 2 (size_of (length logged)) (length logged) ++ logged in
      let four = each_step part (bytes_item logged) [] third [] (string_text 15 logged short) (each_none part) in
      let three = each_step part (uint_item rule) (bytes_item logged ∷ []) second (third ++ []) (number_text 15 rule small) four in
      let two = each_step part (uint_item at) (uint_item rule ∷ bytes_item logged ∷ []) first (second ++ (third ++ [])) (number_text 15 at few) three in
      let one = each_step part (uint_item 1) (uint_item at ∷ uint_item rule ∷ bytes_item logged ∷ []) (1 ∷ []) (first ++ (second ++ (third ++ []))) (uint 15 1) two in
      let rest = 1 ∷ (first ++ (second ++ (third ++ []))) in
      sym (
      ap (λ (o : Option (List ℕ)). text_or o) (array_text 15 (uint_item 1 ∷ uint_item at ∷ uint_item rule ∷ bytes_item logged ∷ []) rest refl one)
      ∙ ap (λ (x : List ℕ). 132 ∷ x) (append-nil rest)
      ∙ ap (λ (x : List ℕ). 132 ∷ 1 ∷ (first ++ (second ++ x))) (append-nil third)
      )
