-- The strict bytes of an entry: what stands before the logged form, and the logged form.
use Rattle.std.proofs.Common.{◌≡◌, ℕ, suc, ◌<◌, ◌≤◌, ◌^◌, Bool, cond, ◌&&◌, true, List, [], ◌∷◌, ◌++◌, length, take, Option, Some, None, refl, sym, ap, ◌∙◌, lt-ltb, le-leb, arith, length-append, append_assoc, append-nil}
use Rattle.std.specs.Prelude.{nat_le}
use Rattle.cbor_core.specs.declared.heads.Size.{Size}
use Rattle.cbor_core.specs.declared.heads.Size.TheVariants.{Within, One, Two, Four, Eight}
use Rattle.cbor_core.specs.declared.words.Grammar.TheVariants.{Strict}
use Rattle.cbor_core.specs.declared.tree.Item.{Item}
use Rattle.cbor_core.specs.declared.tree.Node.TheVariants.{outs-Array}
use Rattle.cbor_core.specs.Limits.{longest_string, most_parts}
use Rattle.cbor_core.specs.Head.{head}
use Rattle.cbor_core.specs.Tree.{Layer}
use Rattle.cbor_core.specs.Encoding.{size_of, both, Writer, spell_each, spell_pairs, spell_layer, spell_in, text_or}
use Rattle.cbor_core.specs.Exact.{strict_text}
use Rattle.cbor_core.specs.Fitting.{UintText, BytesText}
use Rattle.cbor_core.specs.Items.{uint_item, bytes_item, array_item}
use Rattle.cbor_core.specs.Writes.{Writes}
use Rattle.log_replay.specs.Records.{entry_item}
use Rattle.log_replay.specs.Spelling.{entry_front}

-- ---- texts written one behind the other

pub writes-then : {s t : List ℕ} {at m e : ℕ} {a b c : List ℕ} → Writes s at a b m → Writes t m b c e → Writes (s ++ t) at a c e
writes-then {s} {t} {at} {m} {e} {a} {b} {c} first next = record {
  place = omega (arith, first.place, next.place, length-append s t);
  bytes = next.bytes ∙ ap (λ x. x ++ t) first.bytes ∙ append_assoc (take at a) s t;
}

pub head-length : (major : ℕ) (size : Size) (n : ℕ) → length (head major size n) ≤ 9
head-length major Within n = omega arith
head-length major One n = omega arith
head-length major Two n = omega arith
head-length major Four n = omega arith
head-length major Eight n = omega arith

-- ---- an array, part by part

array_text : (room : ℕ) (items : List Item) (rest : List ℕ) → nat_le (length items) most_parts ≡ true → spell_each (spell_in Strict room) items ≡ Some rest
    → spell_in Strict (suc room) (array_item items) ≡ Some (head 4 (size_of (length items)) (length items) ++ rest)
unfolding spell_in spell_pairs
array_text room items rest few e =
    let text = head 4 (size_of (length items)) (length items) in
    let whole : Option (List ℕ) = both (Some text) (both (Some []) (both (spell_each (spell_in Strict room) items) (Some []))) in
    ap (λ (l : Layer). spell_layer Strict (suc room) (spell_in Strict room) l) (outs-Array items)
    ∙ ap (λ (b : Bool). cond (b && nat_le (length items) most_parts) whole None) (lt-ltb 0 (suc room) (omega arith))
    ∙ ap (λ (b : Bool). cond b whole None) few
    ∙ ap (λ (o : Option (List ℕ)). both (Some text) (both (Some []) (both o (Some [])))) e
    ∙ ap (λ (t : List ℕ). Some (text ++ t)) (append-nil rest)

four_parts : (part : Writer) (i j k l : Item) (a b c d : List ℕ) → part i ≡ Some a → part j ≡ Some b → part k ≡ Some c → part l ≡ Some d
    → spell_each part (i ∷ j ∷ k ∷ l ∷ []) ≡ Some (a ++ (b ++ (c ++ d)))
unfolding spell_each
four_parts part i j k l a b c d ea eb ec ed =
    (λ t. both (ea t) (both (eb t) (both (ec t) (both (ed t) (Some [])))))
    ∙ ap (λ (x : List ℕ). Some (a ++ (b ++ (c ++ x)))) (append-nil d)

module _ (uint : UintText) (bytes : BytesText) where
  number_text : (room n : ℕ) → n < 2 ^ 64 → spell_in Strict room (uint_item n) ≡ Some (head 0 (size_of n) n)
  number_text room n low = uint room n ∙ ap (λ (b : Bool). cond b (Some (head 0 (size_of n) n)) None) (lt-ltb n (2 ^ 64) low)

  string_text : (room : ℕ) (s : List ℕ) → length s ≤ 4194304 → spell_in Strict room (bytes_item s) ≡ Some (head 2 (size_of (length s)) (length s) ++ s)
  string_text room s low = bytes room s ∙ ap (λ (b : Bool). cond b (Some (head 2 (size_of (length s)) (length s) ++ s)) None) (le-leb (length s) longest_string (omega arith))

  pub entry_is_text : (at rule : ℕ) (logged : List ℕ) → at < 2 ^ 64 → rule ≤ 65535 → length logged ≤ 4194304
      → strict_text (entry_item at rule logged) ≡ entry_front at rule (length logged) ++ logged
  entry_is_text at rule logged few small short =
      let a = head 0 (size_of at) at in
      let b = head 0 (size_of rule) rule in
      let c = head 2 (size_of (length logged)) (length logged) in
      ap (λ (o : Option (List ℕ)). text_or o)
      (array_text 15 (uint_item 1 ∷ uint_item at ∷ uint_item rule ∷ bytes_item logged ∷ []) ((1 ∷ []) ++ (a ++ (b ++ (c ++ logged)))) refl
      (four_parts (spell_in Strict 15) (uint_item 1) (uint_item at) (uint_item rule) (bytes_item logged) (1 ∷ []) a b (c ++ logged)
      (uint 15 1) (number_text 15 at few) (number_text 15 rule (omega (arith, small))) (string_text 15 logged short)))
      ∙ ap (λ (t : List ℕ). 132 ∷ 1 ∷ t) (ap (λ (t : List ℕ). a ++ t) (sym (append_assoc b c logged)) ∙ sym (append_assoc a (b ++ c) logged))
