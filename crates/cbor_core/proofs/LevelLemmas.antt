-- One level of an item, given its parts.
use Rattle.std.proofs.Common.{◌≡◌, ℕ, ◌+◌, ◌*◌, ◌<◌, ◌≤◌, true, false, ◌==◌, nat_lt, List, [], ◌++◌, length, Result, Ok, refl, sym, ap, ◌∙◌, inl, inr, arith, append_assoc, ne_eqb}
use Rattle.std.specs.Str.{IsUtf8}
use Rattle.std.proofs.lemmas.Str.{is_utf8-from_IsUtf8}
use Rattle.std.proofs.lemmas.Bool.{and_left}
use Rattle.std.proofs.lemmas.List.{length-append, take_at, drop_at}
use Rattle.cbor_core.specs.declared.words.Grammar.{Grammar}
use Rattle.cbor_core.specs.declared.words.Grammar.TheVariants.{Strict, Wide}
use Rattle.cbor_core.specs.declared.heads.Size.{Size}
use Rattle.cbor_core.specs.declared.heads.Size.TheVariants.{Within, One, Two, Four, Eight}
use Rattle.cbor_core.specs.declared.heads.Head.{Head}
use Rattle.cbor_core.specs.declared.heads.Stop.{Stop}
use Rattle.cbor_core.specs.declared.tree.Item.{Item}
use Rattle.cbor_core.specs.declared.tree.Node.{Node, Node-F, out-Node, roll-Node, roll-out-Node}
use Rattle.cbor_core.specs.declared.tree.Node.TheVariants.{Bytes, Text, Array, Map, Tag, Float, rolls-Uint, rolls-Nint, rolls-Bytes, rolls-Text, rolls-Array, rolls-Map, rolls-Tag, rolls-Simple, rolls-Float}
use Rattle.cbor_core.specs.Limits.{longest_string, most_parts}
use Rattle.cbor_core.specs.Tree.{Layer}
use Rattle.cbor_core.specs.Head.{information, limit, MayStand, head, is_reserved}
use Rattle.cbor_core.specs.Spells.{is_strict, SpellsLayer, Headed, IsFloat}
use Rattle.cbor_core.specs.Faults.{is_float}
use Rattle.cbor_core.specs.Reading.{and_then, Reader, judged, opened_by, opened, read_body, seven, IsOpen}
use Rattle.cbor_core.proofs.RowLemmas.{row-none}
use Rattle.cbor_core.proofs.HeadLemmas.{head-again, free_below, free_from, may_fits, may_least}
use Rattle.cbor_core.proofs.PartLemmas.{ReadsAgain, each-again}
use Rattle.cbor_core.proofs.PairLemmas.{pairs-again}

-- a level of reading
abbrev pub level : Grammar → ℕ → Reader → Reader
level g room part bytes = and_then (opened g room bytes) (λ x. read_body g part x.0 x.1)

-- the head of a number, with its size
abbrev head_of : ℕ → Size → ℕ → Head
head_of major size n = record { major = major; size = size; argument = n }

-- an item of this kind
abbrev item_of : Layer → Item
item_of layer = record { node = roll-Node layer }

opens : (g : Grammar) (room : ℕ) (major : ℕ) (size : Size) (n : ℕ) (rest : List ℕ) → is_reserved (32 * major + information size n) n ≡ false → IsOpen g room (head_of major size n) rest
    → opened g room (head major size n ++ rest) ≡ Ok (head_of major size n, rest)
opens g room major size n rest free o =
    let left = length (head major size n ++ rest) in
    ap (λ r. opened_by g room left r) (head-again major size n rest o.argument free) ∙ ap (λ r. judged left r (head_of major size n, rest)) (row-none g room (head_of major size n) rest o)

-- what a level reads behind an open head
level_opens : (g : Grammar) (room : ℕ) (part : Reader) (bytes : List ℕ) (h : Head) (rest : List ℕ) → opened g room bytes ≡ Ok (h, rest) → level g room part bytes ≡ read_body g part h rest
level_opens g room part bytes h rest e = ap (λ r. and_then r (λ x. read_body g part x.0 x.1)) e

-- no number of major type 7 is reserved but in two bytes
within_free : (n : ℕ) → n < 24 → is_reserved (224 + n) n ≡ false
within_free n lt = and_left (224 + n == 248) (nat_lt n 32) (ne_eqb (224 + n) 248 (λ e. absurd (omega arith)))

two_free : (n : ℕ) → is_reserved 249 n ≡ false
two_free n = refl

four_free : (n : ℕ) → is_reserved 250 n ≡ false
four_free n = refl

eight_free : (n : ℕ) → is_reserved 251 n ≡ false
eight_free n = refl

-- a float is spelled in wide
wide_float : (g : Grammar) (width bits : ℕ) (text : List ℕ) → IsFloat g width bits text → (g ≡ Wide) × IsFloat Wide width bits text
wide_float Strict width bits text f = absurd f
wide_float Wide width bits text f = (refl, f)

wide_strict : (g : Grammar) → g ≡ Wide → is_strict g ≡ true → ⊥
wide_strict Strict e s = cc
wide_strict Wide e s = cc

-- ---- what is spelled is read again

module _ (g : Grammar) (room : ℕ) (Part : Item → List ℕ → Type 0) (part : Reader) where
  -- a head of a number, a tag or a list
  open_plain : (major : ℕ) (size : Size) (n : ℕ) (rest : List ℕ) → major < 7 → MayStand g size n → ((2 ≤ major) × (major < 4) → ⊥) → (4 ≤ major → 0 < room) → (4 ≤ major → major < 6 → n ≤ most_parts) → IsOpen g room (head_of major size n) rest
  open_plain major size n rest lt may no_string deep few = record {
    major = omega arith;
    argument = may_fits g size n may;
    shortest = λ s _. may_least g size n may s;
    no_float = λ s is. absurd (omega arith);
    string_limit = λ a b. absurd (no_string (a, b));
    list_limit = λ a b. few a b;
    room_left = λ a b. deep a;
    content = λ a b. absurd (no_string (a, b));
    text = λ is. absurd (no_string (omega arith, omega arith));
  }

  -- a head of a string
  open_string : (major : ℕ) (size : Size) (content rest : List ℕ) → 2 ≤ major → major < 4 → MayStand g size (length content) → length content ≤ longest_string → (major ≡ 3 → IsUtf8 content) → IsOpen g room (head_of major size (length content)) (content ++ rest)
  open_string major size content rest a b may few text = record {
    major = omega arith;
    argument = may_fits g size (length content) may;
    shortest = λ s _. may_least g size (length content) may s;
    no_float = λ s is. absurd (omega arith);
    string_limit = λ _ _. few;
    list_limit = λ c d. absurd (omega arith);
    room_left = λ c d. absurd (omega arith);
    content = λ _ _. omega (arith, length-append content rest);
    text = λ is. rw (take_at content rest (length content) refl) (is_utf8-from_IsUtf8 content (text is));
  }

  plain_again : (major : ℕ) (size : Size) (n : ℕ) (text rest : List ℕ) → major < 7 → MayStand g size n → ((2 ≤ major) × (major < 4) → ⊥) → (4 ≤ major → 0 < room) → (4 ≤ major → major < 6 → n ≤ most_parts) → text ≡ head major size n
      → level g room part (text ++ rest) ≡ read_body g part (head_of major size n) rest
  plain_again major size n text rest lt may no_string deep few e =
      let o = open_plain major size n rest lt may no_string deep few in
      ap (λ (t : List ℕ). level g room part (t ++ rest)) e ∙ level_opens g room part (head major size n ++ rest) (head_of major size n) rest (opens g room major size n rest (free_below major size n lt (may_fits g size n may)) o)

  string_again : (major : ℕ) (content text rest : List ℕ) → 2 ≤ major → major < 4 → length content ≤ longest_string → (major ≡ 3 → IsUtf8 content) → Headed g major (length content) (λ r. r ≡ content) text
      → (size : Size) × (level g room part (text ++ rest) ≡ read_body g part (head_of major size (length content)) (content ++ rest))
  string_again major content text rest a b few utf8 (front, end, (size, may, fe), re, te) =
      let n = length content in
      let o = open_string major size content rest a b may few utf8 in
      let bytes : text ++ rest ≡ head major size n ++ (content ++ rest) = rw (te, fe, re) (append_assoc (head major size n) content rest) in
      (size, ap (λ (t : List ℕ). level g room part t) bytes ∙ level_opens g room part (head major size n ++ (content ++ rest)) (head_of major size n) (content ++ rest) (opens g room major size n (content ++ rest) (free_below major size n (omega arith) (may_fits g size n may)) o))

  -- a simple value or a float
  open_seven : (size : Size) (n : ℕ) (rest : List ℕ) → n < limit size → (is_strict g ≡ true → is_float size ≡ false) → IsOpen g room (head_of 7 size n) rest
  open_seven size n rest lt no_float = record {
    major = omega arith;
    argument = lt;
    shortest = λ _ less. absurd (omega arith);
    no_float = λ s _. no_float s;
    string_limit = λ a b. absurd (omega arith);
    list_limit = λ a b. absurd (omega arith);
    room_left = λ a b. absurd (omega arith);
    content = λ a b. absurd (omega arith);
    text = λ is. absurd (omega arith);
  }

  seven_again : (size : Size) (n : ℕ) (text rest : List ℕ) → n < limit size → (is_strict g ≡ true → is_float size ≡ false) → is_reserved (32 * 7 + information size n) n ≡ false → text ≡ head 7 size n
      → level g room part (text ++ rest) ≡ Ok (seven size n, rest)
  seven_again size n text rest lt no_float free e =
      ap (λ (t : List ℕ). level g room part (t ++ rest)) e ∙ level_opens g room part (head 7 size n ++ rest) (head_of 7 size n) rest (opens g room 7 size n rest free (open_seven size n rest lt no_float))

  abbrev Out : Type 0
  Out = Result (Item × List ℕ) Stop

  again_layer : ReadsAgain Part part → (layer : Layer) (text rest : List ℕ) → SpellsLayer g room Part layer text → level g room part (text ++ rest) ≡ Ok (item_of layer, rest)
  again_layer again (Node-F.Uint n) text rest (size, may, e) =
      plain_again 0 size n text rest (omega arith) may (λ p. absurd (omega arith)) (λ a. absurd (omega arith)) (λ a b. absurd (omega arith)) e
      ∙ ap (λ (x : Node). let y : Out = Ok (record { node = x }, rest) in y) (sym (rolls-Uint n))
  again_layer again (Node-F.Nint n) text rest (size, may, e) =
      plain_again 1 size n text rest (omega arith) may (λ p. absurd (omega arith)) (λ a. absurd (omega arith)) (λ a b. absurd (omega arith)) e
      ∙ ap (λ (x : Node). let y : Out = Ok (record { node = x }, rest) in y) (sym (rolls-Nint n))
  again_layer again (Node-F.Bytes bytes) text rest (few, headed) =
      let s = string_again 2 bytes text rest (omega arith) (omega arith) few (λ is. absurd (omega arith)) headed in
      let body : read_body g part (head_of 2 s.0 (length bytes)) (bytes ++ rest) ≡ Ok (record { node = Bytes bytes }, rest) = rw (take_at bytes rest (length bytes) refl, drop_at bytes rest (length bytes) refl) refl in
      s.1 ∙ body ∙ ap (λ (x : Node). let y : Out = Ok (record { node = x }, rest) in y) (sym (rolls-Bytes bytes))
  again_layer again (Node-F.Text bytes) text rest (few, utf8, headed) =
      let s = string_again 3 bytes text rest (omega arith) (omega arith) few (λ is. utf8) headed in
      let body : read_body g part (head_of 3 s.0 (length bytes)) (bytes ++ rest) ≡ Ok (record { node = Text bytes }, rest) = rw (take_at bytes rest (length bytes) refl, drop_at bytes rest (length bytes) refl) refl in
      s.1 ∙ body ∙ ap (λ (x : Node). let y : Out = Ok (record { node = x }, rest) in y) (sym (rolls-Text bytes))
  again_layer again (Node-F.Array items) text rest (deep, few, (front, end, (size, may, fe), each, te)) =
      let n = length items in
      let bytes : text ++ rest ≡ front ++ (end ++ rest) = rw te (append_assoc front end rest) in
      let opened = plain_again 4 size n front (end ++ rest) (omega arith) may (λ p. absurd (omega arith)) (λ a. deep) (λ a b. few) fe in
      let read = each-again Part part again items end rest each in
      ap (λ (t : List ℕ). level g room part t) bytes ∙ opened ∙ ap (λ r. and_then r (λ x. let y : Out = Ok (record { node = Array x.0 }, x.1) in y)) read
      ∙ ap (λ (x : Node). let y : Out = Ok (record { node = x }, rest) in y) (sym (rolls-Array items))
  again_layer again (Node-F.Map pairs) text rest (deep, few, (front, end, (size, may, fe), each, te)) =
      let n = length pairs in
      let bytes : text ++ rest ≡ front ++ (end ++ rest) = rw te (append_assoc front end rest) in
      let opened = plain_again 5 size n front (end ++ rest) (omega arith) may (λ p. absurd (omega arith)) (λ a. deep) (λ a b. few) fe in
      let read = pairs-again g Part part again pairs end rest [] [] each in
      ap (λ (t : List ℕ). level g room part t) bytes ∙ opened ∙ ap (λ r. and_then r (λ x. let y : Out = Ok (record { node = Map x.0 }, x.1) in y)) read
      ∙ ap (λ (x : Node). let y : Out = Ok (record { node = x }, rest) in y) (sym (rolls-Map pairs))
  again_layer again (Node-F.Tag n item) text rest (deep, (front, end, (size, may, fe), p, te)) =
      let bytes : text ++ rest ≡ front ++ (end ++ rest) = rw te (append_assoc front end rest) in
      let opened = plain_again 6 size n front (end ++ rest) (omega arith) may (λ p. absurd (omega arith)) (λ a. deep) (λ a b. absurd (omega arith)) fe in
      let read = again item end rest p in
      ap (λ (t : List ℕ). level g room part t) bytes ∙ opened ∙ ap (λ r. and_then r (λ x. let y : Out = Ok (record { node = Tag n x.0 }, x.1) in y)) read
      ∙ ap (λ (x : Node). let y : Out = Ok (record { node = x }, rest) in y) (sym (rolls-Tag n item))
  again_layer again (Node-F.Simple n) text rest (inl (lt, e)) =
      seven_again Within n text rest lt (λ s. refl) (within_free n lt) e ∙ ap (λ (x : Node). let y : Out = Ok (record { node = x }, rest) in y) (sym (rolls-Simple n))
  again_layer again (Node-F.Simple n) text rest (inr (ge, lt, e)) =
      seven_again One n text rest lt (λ s. refl) (free_from 248 n ge) e ∙ ap (λ (x : Node). let y : Out = Ok (record { node = x }, rest) in y) (sym (rolls-Simple n))
  again_layer again (Node-F.Float width bits) text rest f =
      let w = wide_float g width bits text f in
      elim w.1 [
        | inl (is, lt, e) ↦ seven_again Two bits text rest lt (λ s. absurd (wide_strict g w.0 s)) (two_free bits) e ∙ ap (λ (x : Node). let y : Out = Ok (record { node = x }, rest) in y) (ap (λ (k : ℕ). Float k bits) (sym is) ∙ sym (rolls-Float width bits))
        | inr (inl (is, lt, e)) ↦ seven_again Four bits text rest lt (λ s. absurd (wide_strict g w.0 s)) (four_free bits) e ∙ ap (λ (x : Node). let y : Out = Ok (record { node = x }, rest) in y) (ap (λ (k : ℕ). Float k bits) (sym is) ∙ sym (rolls-Float width bits))
        | inr (inr (is, lt, e)) ↦ seven_again Eight bits text rest lt (λ s. absurd (wide_strict g w.0 s)) (eight_free bits) e ∙ ap (λ (x : Node). let y : Out = Ok (record { node = x }, rest) in y) (ap (λ (k : ℕ). Float k bits) (sym is) ∙ sym (rolls-Float width bits))
      ]

  pub level-again : ReadsAgain Part part → (item : Item) (text rest : List ℕ) → SpellsLayer g room Part (out-Node item.node) text → level g room part (text ++ rest) ≡ Ok (item, rest)
  level-again again item text rest s =
      again_layer again (out-Node item.node) text rest s ∙ ap (λ (x : Node). let y : Out = Ok (record { node = x }, rest) in y) (roll-out-Node item.node)
