-- Bytes have one answer: the item that they spell determines it.
use Rattle.std.proofs.Common.{◌≡◌, ℕ, List, Option, Some, None, Result, Ok, Err, refl, sym, ap, ◌∙◌, inl, inr}
use Rattle.std.specs.Prelude.{option_and_then, IfOk}
use Rattle.cbor_core.specs.declared.words.Grammar.TheVariants.{Strict}
use Rattle.cbor_core.specs.declared.words.Fault.{Fault}
use Rattle.cbor_core.specs.declared.words.EncodeStop.{EncodeStop}
use Rattle.cbor_core.specs.declared.tree.Item.{Item}
use Rattle.cbor_core.specs.Bytes.{IsBytes}
use Rattle.cbor_core.specs.Spells.{Spells}
use Rattle.cbor_core.specs.Decoding.{WholeFault, strict_item, ItemOrFault, NeverBoth, OneItem, OneWholeFault, ItemIsSpelled, SpelledIsItem}
use Rattle.policy_rules.specs.declared.documents.Policy.{Policy}
use Rattle.policy_rules.specs.declared.documents.PolicyStop.{PolicyStop}
use Rattle.policy_rules.specs.declared.documents.PolicyStop.TheVariants.{Cbor, BadPolicy, OutOfMemory}
use Rattle.policy_rules.specs.Documents.{policy_in, PolicyOf, PolicyFault, document_in, document_of}
use Rattle.cbor_core.specs.Encoding.{Encoded}
use Rattle.policy_rules.specs.Spelling.{policy_item, IsDocument}
use Rattle.policy_rules.specs.OneAnswer.{AnswerOf, SomeAnswer, OneAnswer, DocumentIsExact}

-- what is read of an item
abbrev Read : Type 0
Read = Result Policy ℕ

abbrev Answer : Type 0
Answer = Result Policy PolicyStop

ok_is : (p q : Policy) → ◌≡◌ {A = Read} (Ok p) (Ok q) → p ≡ q
ok_is p q e = cc

err_is : (m n : ℕ) → ◌≡◌ {A = Read} (Err m) (Err n) → m ≡ n
err_is m n e = cc

ok_err : (p : Policy) (n : ℕ) → ◌≡◌ {A = Read} (Ok p) (Err n) → ⊥
ok_err p n e = cc

module _ (items : OneItem) (faults : OneWholeFault) (never : NeverBoth) (bytes : List ℕ) where
  -- two items that the bytes spell are read alike
  alike : (i j : Item) (r s : Read) → Spells Strict i bytes → policy_in i ≡ r → Spells Strict j bytes → policy_in j ≡ s → r ≡ s
  alike i j r s p e q f = sym e ∙ ap policy_in (items Strict bytes i j p q) ∙ f

  one : (a b : Answer) → AnswerOf bytes a → AnswerOf bytes b → a ≡ b
  one (Ok p) (Ok q) (i, s, e) (j, t, f) = ap (λ (x : Policy). let r : Answer = Ok x in r) (ok_is p q (alike i j (Ok p) (Ok q) s e t f))
  one (Ok p) (Err (Cbor fault)) (i, s, e) q = absurd (never Strict bytes i fault s q)
  one (Ok p) (Err (BadPolicy n)) (i, s, e) (j, t, f) = absurd (ok_err p n (alike i j (Ok p) (Err n) s e t f))
  one (Ok p) (Err OutOfMemory) h q = absurd q
  one (Err (Cbor fault)) (Ok q) p (j, t, f) = absurd (never Strict bytes j fault t p)
  one (Err (Cbor fault)) (Err (Cbor other)) p q = ap (λ (x : Fault). let r : Answer = Err (Cbor x) in r) (faults Strict bytes fault other p q)
  one (Err (Cbor fault)) (Err (BadPolicy n)) p (j, t, f) = absurd (never Strict bytes j fault t p)
  one (Err (Cbor fault)) (Err OutOfMemory) p q = absurd q
  one (Err (BadPolicy m)) (Ok q) (i, s, e) (j, t, f) = absurd (ok_err q m (alike j i (Ok q) (Err m) t f s e))
  one (Err (BadPolicy m)) (Err (Cbor fault)) (i, s, e) q = absurd (never Strict bytes i fault s q)
  one (Err (BadPolicy m)) (Err (BadPolicy n)) (i, s, e) (j, t, f) = ap (λ (x : ℕ). let r : Answer = Err (BadPolicy x) in r) (err_is m n (alike i j (Err m) (Err n) s e t f))
  one (Err (BadPolicy m)) (Err OutOfMemory) p q = absurd q
  one (Err OutOfMemory) b p q = absurd p

pub one_answer : OneItem → OneWholeFault → NeverBoth → OneAnswer
one_answer items faults never bytes a b p q = one items faults never bytes a b p q

abbrev HasAnswer : List ℕ → Type 0
HasAnswer bytes = (answer : Answer) × AnswerOf bytes answer

read_as : (bytes : List ℕ) (item : Item) → Spells Strict item bytes → (r : Read) → policy_in item ≡ r → HasAnswer bytes
read_as bytes item spelled (Ok p) e = (Ok p, (item, spelled, e))
read_as bytes item spelled (Err n) e = (Err (BadPolicy n), (item, spelled, e))

pub some_answer : ItemOrFault → SomeAnswer
some_answer either bytes fits = elim (either Strict bytes fits) [
  | inl found ↦ read_as bytes found.0 found.1 (policy_in found.0) refl
  | inr fault ↦ (Err (Cbor fault.0), fault.1)
]

given_document : (r : Read) (p : Policy) → document_in r ≡ Some p → r ≡ Ok p
given_document (Ok q) p e = cc
given_document (Err n) p e = cc

by_item : ItemIsSpelled → (bytes : List ℕ) (p : Policy) → IsBytes bytes → (o : Option Item) → strict_item bytes ≡ o → option_and_then (λ (item : Item). document_in (policy_in item)) o ≡ Some p → PolicyOf bytes p
by_item spelled bytes p fits None is e = cc
by_item spelled bytes p fits (Some item) is e = (item, spelled bytes item fits is, given_document (policy_in item) p e)

pub document_exact : ItemIsSpelled → SpelledIsItem → DocumentIsExact
unfolding document_of
document_exact spelled given bytes p fits = (
  (λ e. by_item spelled bytes p fits (strict_item bytes) refl e),
  (λ h. ap (λ (o : Option Item). option_and_then (λ (item : Item). document_in (policy_in item)) o) (given bytes h.0 h.1) ∙ ap document_in h.2),
)

-- what is written of a document is that document
pub written : (p : Policy) (item : Item) (r : Result (List ℕ) EncodeStop) → item ≡ policy_item p → Encoded item r → IsDocument p → IfOk r (λ bytes. PolicyOf bytes p)
written p item (Ok bytes) same made is = (item, made, ap policy_in same ∙ is)
written p item (Err stop) same made is = tt
