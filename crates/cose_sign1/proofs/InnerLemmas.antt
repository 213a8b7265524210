-- What stands in spelled bytes is bytes: the protected string of a message.
use Rattle.std.proofs.Common.{◌≡◌, ℕ, zero, suc, ◌+◌, ◌<◌, Bool, true, false, ◌==◌, if◌then◌else◌, List, [], ◌∷◌, ◌++◌, length, Option, Some, None, sym, ap, subst, ◌∙◌, inl, inr, arith}
use Rattle.std.proofs.lemmas.Bool.{cases_lt}
use Rattle.std.proofs.lemmas.List.{get_or_past, get_or_append_left, get_or-append-add}
use Rattle.cbor_core.specs.declared.words.Grammar.TheVariants.{Wide}
use Rattle.cbor_core.specs.declared.tree.Item.{Item}
use Rattle.cbor_core.specs.declared.tree.Node.{Node-F, out-Node}
use Rattle.cbor_core.specs.Bytes.{IsBytes}
use Rattle.cbor_core.specs.Tree.{Layer}
use Rattle.cbor_core.specs.Spells.{SpellEach, SpellsLayer, SpellsIn, Spells}
use Rattle.cose_sign1.specs.declared.parts.Parts.{Parts}
use Rattle.cose_sign1.specs.Parts.{string_in, headers_in, payload_in, filled, four, array_in, tagged_in, parts_in}

-- bytes in two parts
module _ (front rest : List ℕ) (fits : IsBytes (front ++ rest)) where
  first_bytes : IsBytes front
  first_bytes i =
      elim (cases_lt i (length front)) [
        | inl within ↦ subst (λ (n : ℕ). n < 256) (get_or_append_left front rest 0 i within) (fits i)
        | inr past ↦ subst (λ (n : ℕ). n < 256) (sym (get_or_past front i 0 past)) (omega arith)
      ]

  last_bytes : IsBytes rest
  last_bytes i = subst (λ (n : ℕ). n < 256) (get_or-append-add front rest i 0) (fits (length front + i))

-- a string
in_string : (room : ℕ) (Part : Item → List ℕ → Type 0) (l : Layer) (string text : List ℕ) → string_in l ≡ Some string → SpellsLayer Wide room Part l text → IsBytes text → IsBytes string
in_string room Part (Node-F.Bytes bytes) string text e (short, (front, rest, head, is, parts)) fits =
    let same : bytes ≡ string = cc in
    subst IsBytes (is ∙ same) (last_bytes front rest (subst IsBytes parts fits))
in_string room Part (Node-F.Uint n) string text e s fits = absurd cc
in_string room Part (Node-F.Nint n) string text e s fits = absurd cc
in_string room Part (Node-F.Text bytes) string text e s fits = absurd cc
in_string room Part (Node-F.Array items) string text e s fits = absurd cc
in_string room Part (Node-F.Map pairs) string text e s fits = absurd cc
in_string room Part (Node-F.Tag n item) string text e s fits = absurd cc
in_string room Part (Node-F.Simple n) string text e s fits = absurd cc
in_string room Part (Node-F.Float width bits) string text e s fits = absurd cc

filled_string : (t : Bool) (p : Option (List ℕ)) (u : Option (List (Item × Item))) (c : Option (Option (List ℕ))) (s : Option (List ℕ)) (parts : Parts) → filled t p u c s ≡ Some parts → p ≡ Some parts.protected
filled_string t (Some p) (Some u) (Some c) (Some s) parts e = ap (λ (o : Option Parts). elim o [ None ↦ Some p | Some x ↦ Some x.protected ]) e
filled_string t None u c s parts e = absurd cc
filled_string t (Some p) None c s parts e = absurd cc
filled_string t (Some p) (Some u) None s parts e = absurd cc
filled_string t (Some p) (Some u) (Some c) None parts e = absurd cc

in_item : (room : ℕ) (item : Item) (string text : List ℕ) → string_in (out-Node item.node) ≡ Some string → SpellsIn Wide room item text → IsBytes text → IsBytes string
unfolding SpellsIn
in_item zero item string text e s fits = in_string 0 (λ _ _. ⊥) (out-Node item.node) string text e s fits
in_item (suc room) item string text e s fits =
    in_string (suc room) (SpellsIn Wide room) (out-Node item.node) string text e s fits

-- the first of four parts
in_four : (room : ℕ) (t : Bool) (items : List Item) (text : List ℕ) (parts : Parts) → four t items ≡ Some parts → SpellEach (SpellsIn Wide room) items text → IsBytes text → IsBytes parts.protected
unfolding SpellEach
in_four room t (p ∷ u ∷ c ∷ s ∷ []) text parts e (front, rest, first, others, is) fits =
    let string = filled_string t (string_in (out-Node p.node)) (headers_in (out-Node u.node)) (payload_in (out-Node c.node)) (string_in (out-Node s.node)) parts e in
    in_item room p parts.protected front string first (first_bytes front rest (subst IsBytes is fits))
in_four room t [] text parts e each fits = absurd cc
in_four room t (p ∷ []) text parts e each fits = absurd cc
in_four room t (p ∷ u ∷ []) text parts e each fits = absurd cc
in_four room t (p ∷ u ∷ c ∷ []) text parts e each fits = absurd cc
in_four room t (p ∷ u ∷ c ∷ s ∷ x ∷ xs) text parts e each fits = absurd cc

in_array : (room : ℕ) (t : Bool) (l : Layer) (text : List ℕ) (parts : Parts) → array_in t l ≡ Some parts → SpellsLayer Wide (suc room) (SpellsIn Wide room) l text → IsBytes text → IsBytes parts.protected
in_array room t (Node-F.Array items) text parts e (some, few, (front, rest, head, each, is)) fits =
    in_four room t items rest parts e each (last_bytes front rest (subst IsBytes is fits))
in_array room t (Node-F.Uint n) text parts e s fits = absurd cc
in_array room t (Node-F.Nint n) text parts e s fits = absurd cc
in_array room t (Node-F.Bytes bytes) text parts e s fits = absurd cc
in_array room t (Node-F.Text bytes) text parts e s fits = absurd cc
in_array room t (Node-F.Map pairs) text parts e s fits = absurd cc
in_array room t (Node-F.Tag n item) text parts e s fits = absurd cc
in_array room t (Node-F.Simple n) text parts e s fits = absurd cc
in_array room t (Node-F.Float width bits) text parts e s fits = absurd cc

in_tag : (b : Bool) (inner : Item) (text : List ℕ) (parts : Parts) → (if b then array_in true (out-Node inner.node) else None) ≡ Some parts → SpellsIn Wide 15 inner text → IsBytes text → IsBytes parts.protected
unfolding SpellsIn
in_tag true inner text parts e s fits = in_array 14 true (out-Node inner.node) text parts e s fits
in_tag false inner text parts e s fits = absurd cc

in_tagged : (l : Layer) (text : List ℕ) (parts : Parts) → tagged_in l ≡ Some parts → SpellsLayer Wide 16 (SpellsIn Wide 15) l text → IsBytes text → IsBytes parts.protected
in_tagged (Node-F.Tag n inner) text parts e (some, (front, rest, head, s, is)) fits =
    in_tag (n == 18) inner rest parts e s (last_bytes front rest (subst IsBytes is fits))
in_tagged (Node-F.Array items) text parts e s fits = in_array 15 false (Node-F.Array items) text parts e s fits
in_tagged (Node-F.Uint n) text parts e s fits = absurd cc
in_tagged (Node-F.Nint n) text parts e s fits = absurd cc
in_tagged (Node-F.Bytes bytes) text parts e s fits = absurd cc
in_tagged (Node-F.Text bytes) text parts e s fits = absurd cc
in_tagged (Node-F.Map pairs) text parts e s fits = absurd cc
in_tagged (Node-F.Simple n) text parts e s fits = absurd cc
in_tagged (Node-F.Float width bits) text parts e s fits = absurd cc

pub in_message : (item : Item) (bytes : List ℕ) (parts : Parts) → parts_in item ≡ Some parts → Spells Wide item bytes → IsBytes bytes → IsBytes parts.protected
unfolding parts_in Spells SpellsIn
in_message item bytes parts e s fits = in_tagged (out-Node item.node) bytes parts e s fits
