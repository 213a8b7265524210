-- The strict bytes of a problem: its five numbers, and its title.
use Rattle.std.proofs.Common.{◌≡◌, ℕ, suc, ◌<◌, ◌≤◌, ◌^◌, Bool, cond, ◌&&◌, true, List, [], ◌∷◌, ◌++◌, length, Option, Some, None, refl, ap, ◌∙◌, lt-ltb, arith, append-nil}
use Rattle.std.specs.Prelude.{nat_le, option_and_then}
use Rattle.std.specs.Str.{is_utf8}
use Rattle.cbor_core.specs.declared.heads.Size.{Size}
use Rattle.cbor_core.specs.declared.heads.Size.TheVariants.{Within, One, Two, Four, Eight}
use Rattle.cbor_core.specs.declared.words.Grammar.TheVariants.{Strict}
use Rattle.cbor_core.specs.declared.tree.Item.{Item}
use Rattle.cbor_core.specs.declared.tree.Node.TheVariants.{outs-Array, outs-Map}
use Rattle.cbor_core.specs.Limits.{longest_string, most_parts}
use Rattle.cbor_core.specs.Bytes.{is_below}
use Rattle.cbor_core.specs.Head.{head}
use Rattle.cbor_core.specs.Tree.{Layer}
use Rattle.cbor_core.specs.Encoding.{size_of, both, Writer, may_follow, spell_each, spell_pairs, spell_layer, spell_in, text_or}
use Rattle.cbor_core.specs.Exact.{strict_text}
use Rattle.cbor_core.specs.Fitting.{UintText, NintText, TextText}
use Rattle.cbor_core.specs.Items.{uint_item, nint_item, text_item, array_item, map_item}
use Rattle.scitt_answers.specs.declared.problem.Problem.{Problem}
use Rattle.scitt_answers.specs.declared.problem.Problem.TheVariants as problem
use Rattle.std.proofs.lemmas.Bool.{and_parts, and_from}
use Rattle.std.proofs.lemmas.Str.{IsUtf8-from_ascii, is_utf8-from_IsUtf8}
use Rattle.scitt_answers.specs.Routes.{is_plain}
use Rattle.scitt_answers.proofs.Texts.{plain_ascii}
use Rattle.scitt_answers.specs.Problems.{kind_of, number_text, fields_text, title_text}

size_short : (major : ℕ) (size : Size) (n : ℕ) → length (head major size n) ≤ 9
size_short major Within n = omega arith
size_short major One n = omega arith
size_short major Two n = omega arith
size_short major Four n = omega arith
size_short major Eight n = omega arith

pub head_short : (major n : ℕ) → length (head major (size_of n) n) ≤ 9
head_short major n = size_short major (size_of n) n

array_text : (room : ℕ) (items : List Item) (rest : List ℕ) → nat_le (length items) most_parts ≡ true → spell_each (spell_in Strict room) items ≡ Some rest
    → spell_in Strict (suc room) (array_item items) ≡ Some (head 4 (size_of (length items)) (length items) ++ rest)
unfolding spell_in spell_pairs
array_text room items rest few e =
    let text = head 4 (size_of (length items)) (length items) in
    let whole : Option (List ℕ) = both (Some text) (both (Some []) (both (spell_each (spell_in Strict room) items) (Some []))) in
    ap (λ (l : Layer). spell_layer Strict (suc room) (spell_in Strict room) l) (outs-Array items)
    ∙ ap (λ (b : Bool). cond (b && nat_le (length items) most_parts) whole None) (lt-ltb 0 (suc room) (omega arith))
    ∙ ap (λ (b : Bool). cond b whole None) few
    ∙ ap (λ (o : Option (List ℕ)). both (Some text) (both (Some []) (both o (Some [])))) e
    ∙ ap (λ (t : List ℕ). Some (text ++ t)) (append-nil rest)

map_text : (room : ℕ) (pairs : List (Item × Item)) (rest : List ℕ) → nat_le (length pairs) most_parts ≡ true → spell_pairs Strict (spell_in Strict room) [] pairs ≡ Some rest
    → spell_in Strict (suc room) (map_item pairs) ≡ Some (head 5 (size_of (length pairs)) (length pairs) ++ rest)
unfolding spell_in spell_each
map_text room pairs rest few e =
    let text = head 5 (size_of (length pairs)) (length pairs) in
    let whole : Option (List ℕ) = both (Some text) (both (Some []) (both (Some []) (spell_pairs Strict (spell_in Strict room) [] pairs))) in
    ap (λ (l : Layer). spell_layer Strict (suc room) (spell_in Strict room) l) (outs-Map pairs)
    ∙ ap (λ (b : Bool). cond (b && nat_le (length pairs) most_parts) whole None) (lt-ltb 0 (suc room) (omega arith))
    ∙ ap (λ (b : Bool). cond b whole None) few
    ∙ ap (λ (o : Option (List ℕ)). both (Some text) (both (Some []) (both (Some []) o))) e

five_parts : (part : Writer) (i j k l m : Item) (a b c d e : List ℕ) → part i ≡ Some a → part j ≡ Some b → part k ≡ Some c → part l ≡ Some d → part m ≡ Some e
    → spell_each part (i ∷ j ∷ k ∷ l ∷ m ∷ []) ≡ Some (a ++ (b ++ (c ++ (d ++ e))))
unfolding spell_each
five_parts part i j k l m a b c d e ea eb ec ed ee =
    (λ t. both (ea t) (both (eb t) (both (ec t) (both (ed t) (both (ee t) (Some []))))))
    ∙ ap (λ (x : List ℕ). Some (a ++ (b ++ (c ++ (d ++ x))))) (append-nil e)

-- the keys 1 and -1 rise
two_pairs : (part : Writer) (i j k l : Item) (b d : List ℕ) → part i ≡ Some (1 ∷ []) → part j ≡ Some b → part k ≡ Some (32 ∷ []) → part l ≡ Some d
    → spell_pairs Strict part [] ((i, j) ∷ (k, l) ∷ []) ≡ Some ((1 ∷ []) ++ (b ++ ((32 ∷ []) ++ d)))
unfolding spell_pairs is_below
two_pairs part i j k l b d ea eb ec ed =
    (λ t. option_and_then (λ (key : List ℕ). cond (may_follow Strict [] key) (both (Some key) (both (eb t) (option_and_then (λ (next : List ℕ). cond (may_follow Strict key next) (both (Some next) (both (ed t) (Some []))) None) (ec t)))) None) (ea t))
    ∙ ap (λ (x : List ℕ). Some ((1 ∷ []) ++ (b ++ ((32 ∷ []) ++ x)))) (append-nil d)

module _ (uint : UintText) (nint : NintText) (text : TextText) where
  uint_is : (room n : ℕ) → n < 2 ^ 64 → spell_in Strict room (uint_item n) ≡ Some (number_text n)
  uint_is room n low = uint room n ∙ ap (λ (b : Bool). cond b (Some (number_text n)) None) (lt-ltb n (2 ^ 64) low)

  text_is : (room : ℕ) (s : List ℕ) → (nat_le (length s) longest_string && is_utf8 s) ≡ true → spell_in Strict room (text_item s) ≡ Some (head 3 (size_of (length s)) (length s) ++ s)
  text_is room s e = text room s ∙ ap (λ (b : Bool). cond b (Some (head 3 (size_of (length s)) (length s) ++ s)) None) e

  fields_are : (room code size moment a b : ℕ) → code < 2 ^ 64 → size < 2 ^ 64 → moment < 2 ^ 64 → a < 2 ^ 64 → b < 2 ^ 64
      → spell_in Strict (suc room) (array_item (uint_item code ∷ uint_item size ∷ uint_item moment ∷ uint_item a ∷ uint_item b ∷ []))
      ≡ Some (133 ∷ (number_text code ++ (number_text size ++ (number_text moment ++ (number_text a ++ number_text b)))))
  fields_are room code size moment a b c_low s_low m_low a_low b_low =
      array_text room (uint_item code ∷ uint_item size ∷ uint_item moment ∷ uint_item a ∷ uint_item b ∷ []) _ refl
      (five_parts (spell_in Strict room) (uint_item code) (uint_item size) (uint_item moment) (uint_item a) (uint_item b)
      (number_text code) (number_text size) (number_text moment) (number_text a) (number_text b)
      (uint_is room code c_low) (uint_is room size s_low) (uint_is room moment m_low) (uint_is room a a_low) (uint_is room b b_low))

  pub body_is : (code size moment a b : ℕ) (title : List ℕ) → code < 2 ^ 64 → size < 2 ^ 64 → moment < 2 ^ 64 → a < 2 ^ 64 → b < 2 ^ 64
      → (nat_le (length title) longest_string && is_utf8 title) ≡ true
      → strict_text (map_item ((uint_item 1, array_item (uint_item code ∷ uint_item size ∷ uint_item moment ∷ uint_item a ∷ uint_item b ∷ [])) ∷ (nint_item 0, text_item title) ∷ []))
      ≡ fields_text code size moment a b ++ title_text title
  body_is code size moment a b title c_low s_low m_low a_low b_low whole =
      ap (λ (o : Option (List ℕ)). text_or o)
      (map_text 15 ((uint_item 1, array_item (uint_item code ∷ uint_item size ∷ uint_item moment ∷ uint_item a ∷ uint_item b ∷ [])) ∷ (nint_item 0, text_item title) ∷ []) _ refl
      (two_pairs (spell_in Strict 15) (uint_item 1) (array_item (uint_item code ∷ uint_item size ∷ uint_item moment ∷ uint_item a ∷ uint_item b ∷ [])) (nint_item 0) (text_item title)
      (133 ∷ (number_text code ++ (number_text size ++ (number_text moment ++ (number_text a ++ number_text b))))) (head 3 (size_of (length title)) (length title) ++ title)
      (uint 15 1) (fields_are 14 code size moment a b c_low s_low m_low a_low b_low) (nint 15 0) (text_is 15 title whole)))

title_plain : (p : Problem) → (nat_le (length (kind_of p).title) longest_string && is_plain (kind_of p).title) ≡ true
title_plain problem.BadHead = refl
title_plain (problem.BadStatement number place) = refl
title_plain (problem.Denied rule moment) = refl
title_plain problem.NoRoute = refl
title_plain (problem.NoEntry index) = refl
title_plain (problem.NoSuchSize old) = refl
title_plain (problem.BadMethod allowed) = refl
title_plain problem.NoLength = refl
title_plain problem.TooLarge = refl
title_plain problem.BadType = refl
title_plain problem.HeadTooLong = refl
title_plain (problem.LogFull entries bytes) = refl
title_plain (problem.KeyExhausted next capacity) = refl
title_plain problem.DiskFault = refl
title_plain problem.ClockFault = refl
title_plain problem.OutOfMemory = refl
title_plain (problem.DiskChanged number) = refl

-- each title is a short text
pub title_whole : (p : Problem) → (nat_le (length (kind_of p).title) longest_string && is_utf8 (kind_of p).title) ≡ true
title_whole p =
    let title = (kind_of p).title in
    let parts = and_parts (nat_le (length title) longest_string) (is_plain title) (title_plain p) in
    and_from (nat_le (length title) longest_string) (is_utf8 title) parts.0 (is_utf8-from_IsUtf8 title (IsUtf8-from_ascii title (plain_ascii title parts.1)))
