-- Bytes have one answer: each step of decoding is determined by the bytes.
use Rattle.std.proofs.Common.{◌≡◌, ℕ, ◌⊎◌, List, [], ◌∷◌, Option, Some, None, Result, Ok, Err, inl, inr, refl, sym, ap, subst, ◌∙◌}
use Rattle.cbor_core.specs.declared.words.Grammar.TheVariants.{Wide}
use Rattle.cbor_core.specs.declared.words.Fault.{Fault}
use Rattle.cbor_core.specs.declared.tree.Item.{Item}
use Rattle.cbor_core.specs.Spells.{Spells}
use Rattle.cbor_core.specs.Decoding.{ItemOrFault, NeverBoth, OneItem, OneWholeFault, NoneIsEmpty}
use Rattle.cose_sign1.specs.declared.parts.Parts.{Parts}
use Rattle.cose_sign1.specs.declared.sign1.Sign1.{Sign1}
use Rattle.cose_sign1.specs.declared.stops.Sign1Stop.{Sign1Stop}
use Rattle.cose_sign1.specs.declared.stops.Sign1Stop.TheVariants.{Cbor, Protected, NotSign1, BadHeader, DupLabel, BadCrit, OutOfMemory}
use Rattle.cbor_core.specs.Bytes.{IsBytes}
use Rattle.cose_sign1.specs.Parts.{parts_in, entries_in}
use Rattle.cose_sign1.specs.Headers.{header_fault}
use Rattle.cose_sign1.specs.Sign1Of.{CborFault, HasParts, HasNoParts, HasEntries, HeaderFault, message_of}
use Rattle.cose_sign1.specs.OneAnswer.{AnswerOf, SomeAnswer, OneAnswer}
use Rattle.cose_sign1.proofs.DecodeLemmas.{headers_fault}
use Rattle.cose_sign1.proofs.InnerLemmas.{in_message}

abbrev Answer : Type 0
Answer = Result Sign1 Sign1Stop

-- ---- what each step leaves to answer

abbrev judged : Option Sign1Stop → Sign1 → Answer
judged None v = Ok v
judged (Some stop) v = Err stop

abbrev ByEntries : Parts → Option (List (Item × Item)) → Answer → Type 0
ByEntries parts None answer = answer ≡ Err NotSign1
ByEntries parts (Some entries) answer = answer ≡ judged (header_fault entries parts.unprotected) (message_of parts entries)

abbrev ByString : Parts → Answer → Type 0
ByString parts answer =
    ((parts.protected ≡ []) × ByEntries parts (Some []) answer)
    ⊎ (((parts.protected ≡ [] → ⊥) × ((fault : Fault) × CborFault parts.protected fault × (answer ≡ Err (Protected fault))))
    ⊎ ((item : Item) × Spells Wide item parts.protected × ByEntries parts (entries_in item) answer))

abbrev ByParts : Option Parts → Answer → Type 0
ByParts None answer = answer ≡ Err NotSign1
ByParts (Some parts) answer = ByString parts answer

abbrev ByBytes : List ℕ → Answer → Type 0
ByBytes bytes answer =
    ((fault : Fault) × CborFault bytes fault × (answer ≡ Err (Cbor fault)))
    ⊎ ((item : Item) × Spells Wide item bytes × ByParts (parts_in item) answer)

-- ---- the definitions, step by step

string_of : (parts : Parts) (entries : List (Item × Item)) (answer : Answer) → HasEntries parts.protected entries
    → answer ≡ judged (header_fault entries parts.unprotected) (message_of parts entries) → ByString parts answer
string_of parts entries answer (inl (e, none)) is =
    inl (e, subst (λ (xs : List (Item × Item)). ByEntries parts (Some xs) answer) none is)
string_of parts entries answer (inr (item, s, held)) is =
    inr (inr (item, s, subst (λ (o : Option (List (Item × Item))). ByEntries parts o answer) (sym held) is))

module _ (bytes : List ℕ) where
  shaped : (parts : Parts) (answer : Answer) → HasParts bytes parts → ByString parts answer → ByBytes bytes answer
  shaped parts answer (item, s, is) p = inr (item, s, subst (λ (o : Option Parts). ByParts o answer) (sym is) p)

  unshaped : HasNoParts bytes → ByBytes bytes (Err NotSign1)
  unshaped (item, s, none) = inr (item, s, subst (λ (o : Option Parts). ByParts o (Err NotSign1)) (sym none) refl)

  at_header : (stop : Sign1Stop) → HeaderFault bytes stop → ByBytes bytes (Err stop)
  at_header stop (parts, entries, has, held, f) =
      shaped parts (Err stop) has (string_of parts entries (Err stop) held (ap (λ (o : Option Sign1Stop). judged o (message_of parts entries)) (sym f)))

  steps : (answer : Answer) → AnswerOf bytes answer → ByBytes bytes answer
  steps (Ok v) (parts, entries, has, held, fine, is) =
      shaped parts (Ok v) has (string_of parts entries (Ok v) held (ap (λ (x : Sign1). let a : Answer = Ok x in a) is ∙ ap (λ (o : Option Sign1Stop). judged o (message_of parts entries)) (sym fine)))
  steps (Err (Cbor fault)) f = inl (fault, f, refl)
  steps (Err (Protected fault)) (parts, has, (some, f)) = shaped parts (Err (Protected fault)) has (inr (inl (some, (fault, f, refl))))
  steps (Err NotSign1) (inl h) = unshaped h
  steps (Err NotSign1) (inr (parts, has, (item, s, none))) =
      shaped parts (Err NotSign1) has (inr (inr (item, s, subst (λ (o : Option (List (Item × Item))). ByEntries parts o (Err NotSign1)) (sym none) refl)))
  steps (Err (BadHeader label)) h = at_header (BadHeader label) h
  steps (Err (DupLabel label)) h = at_header (DupLabel label) h
  steps (Err BadCrit) h = at_header BadCrit h
  steps (Err OutOfMemory) h = absurd h

-- ---- each step is determined

abbrev One : (Answer → Type 0) → Type 0
One P = (a b : Answer) → P a → P b → a ≡ b

one_entries : (parts : Parts) (o : Option (List (Item × Item))) → One (ByEntries parts o)
one_entries parts None a b p q = p ∙ sym q
one_entries parts (Some entries) a b p q = p ∙ sym q

module _ (never_both : NeverBoth) (one_item : OneItem) (one_fault : OneWholeFault) (none_is_empty : NoneIsEmpty) where
  empty : (string : List ℕ) (item : Item) → string ≡ [] → Spells Wide item string → ⊥
  empty string item e s = none_is_empty Wide item (subst (λ (t : List ℕ). Spells Wide item t) e s)

  one_string : (parts : Parts) → One (ByString parts)
  one_string parts a b (inl (e, p)) (inl (f, q)) = one_entries parts (Some []) a b p q
  one_string parts a b (inl (e, p)) (inr (inl (some, q))) = absurd (some e)
  one_string parts a b (inl (e, p)) (inr (inr (y, t, q))) = absurd (empty parts.protected y e t)
  one_string parts a b (inr (inl (some, p))) (inl (f, q)) = absurd (some f)
  one_string parts a b (inr (inl (some, (f, p, is)))) (inr (inl (any, (g, q, was)))) =
      is ∙ ap (λ (x : Fault). let r : Answer = Err (Protected x) in r) (one_fault Wide parts.protected f g p q) ∙ sym was
  one_string parts a b (inr (inl (some, (f, p, is)))) (inr (inr (y, t, q))) = absurd (never_both Wide parts.protected y f t p)
  one_string parts a b (inr (inr (x, s, p))) (inl (f, q)) = absurd (empty parts.protected x f s)
  one_string parts a b (inr (inr (x, s, p))) (inr (inl (any, (g, q, was)))) = absurd (never_both Wide parts.protected x g s q)
  one_string parts a b (inr (inr (x, s, p))) (inr (inr (y, t, q))) =
      one_entries parts (entries_in y) a b (subst (λ (z : Item). ByEntries parts (entries_in z) a) (one_item Wide parts.protected x y s t) p) q

  one_parts : (o : Option Parts) → One (ByParts o)
  one_parts None a b p q = p ∙ sym q
  one_parts (Some parts) a b p q = one_string parts a b p q

  one_bytes : (bytes : List ℕ) → One (ByBytes bytes)
  one_bytes bytes a b (inl (f, p, is)) (inl (g, q, was)) =
      is ∙ ap (λ (x : Fault). let r : Answer = Err (Cbor x) in r) (one_fault Wide bytes f g p q) ∙ sym was
  one_bytes bytes a b (inl (f, p, is)) (inr (y, t, q)) = absurd (never_both Wide bytes y f t p)
  one_bytes bytes a b (inr (x, s, p)) (inl (g, q, was)) = absurd (never_both Wide bytes x g s q)
  one_bytes bytes a b (inr (x, s, p)) (inr (y, t, q)) =
      one_parts (parts_in y) a b (subst (λ (z : Item). ByParts (parts_in z) a) (one_item Wide bytes x y s t) p) q

  pub one_answer : OneAnswer
  one_answer bytes a b p q = one_bytes bytes a b (steps bytes a p) (steps bytes b q)

-- ---- there is an answer

abbrev HasAnswer : List ℕ → Type 0
HasAnswer bytes = (answer : Answer) × AnswerOf bytes answer

module _ (bytes : List ℕ) (parts : Parts) (has : HasParts bytes parts) where
  with_fault : (entries : List (Item × Item)) → HasEntries parts.protected entries → (o : Option Sign1Stop) → header_fault entries parts.unprotected ≡ o → HasAnswer bytes
  with_fault entries held None e = (Ok (message_of parts entries), (parts, entries, has, held, e, refl))
  with_fault entries held (Some stop) e = (Err stop, headers_fault bytes parts has entries stop held e)

  with_entries : (entries : List (Item × Item)) → HasEntries parts.protected entries → HasAnswer bytes
  with_entries entries held = with_fault entries held (header_fault entries parts.unprotected) refl

  with_item : (item : Item) → Spells Wide item parts.protected → (o : Option (List (Item × Item))) → entries_in item ≡ o → HasAnswer bytes
  with_item item s None e = (Err NotSign1, inr (parts, has, (item, s, e)))
  with_item item s (Some entries) e = with_entries entries (inr (item, s, e))

  with_string : ItemOrFault → IsBytes parts.protected → (string : List ℕ) → parts.protected ≡ string → HasAnswer bytes
  with_string either fits [] e = with_entries [] (inl (e, refl))
  with_string either fits (b ∷ rest) e =
      elim (either Wide parts.protected fits) [
        | inl (item, s) ↦ with_item item s (entries_in item) refl
        | inr (fault, f) ↦ (Err (Protected fault), (parts, has, ((λ none. let clash : [] ≡ b ∷ rest = sym none ∙ e in absurd cc), f)))
      ]

module _ (either : ItemOrFault) (bytes : List ℕ) (fits : IsBytes bytes) where
  with_parts : (item : Item) → Spells Wide item bytes → (o : Option Parts) → parts_in item ≡ o → HasAnswer bytes
  with_parts item s None e = (Err NotSign1, inl (item, s, e))
  with_parts item s (Some parts) e =
      with_string bytes parts (item, s, e) either (in_message item bytes parts e s fits) parts.protected refl

pub some_answer : ItemOrFault → SomeAnswer
some_answer either bytes fits =
    elim (either Wide bytes fits) [
      | inl (item, s) ↦ with_parts either bytes fits item s (parts_in item) refl
      | inr (fault, f) ↦ (Err (Cbor fault), f)
    ]
