-- Bytes have one answer as a trust file: the item that they spell determines it.
use Rattle.std.proofs.Common.{◌≡◌, ℕ, List, Option, Some, None, Result, Ok, Err, refl, sym, ap, ◌∙◌, inl, inr}
use Rattle.std.specs.Prelude.{option_and_then}
use Rattle.cbor_core.specs.declared.words.Grammar.TheVariants.{Strict}
use Rattle.cbor_core.specs.declared.words.Fault.{Fault}
use Rattle.cbor_core.specs.declared.tree.Item.{Item}
use Rattle.cbor_core.specs.Bytes.{IsBytes}
use Rattle.cbor_core.specs.Spells.{Spells}
use Rattle.cbor_core.specs.Decoding.{strict_item, ItemOrFault, NeverBoth, OneItem, OneWholeFault, ItemIsSpelled, SpelledIsItem}
use Rattle.relying_party.specs.declared.trust.Trust.{Trust}
use Rattle.relying_party.specs.declared.trust.TrustStop.{TrustStop}
use Rattle.relying_party.specs.declared.trust.TrustStop.TheVariants.{Cbor, BadTrust, OutOfMemory}
use Rattle.relying_party.specs.TrustFiles.{trust_in, trust_of, TrustOf}
use Rattle.relying_party.specs.OneAnswer.{AnswerOf, SomeAnswer, OneAnswer, TrustIsExact}

abbrev Read : Type 0
Read = Option Trust

abbrev Answer : Type 0
Answer = Result Trust TrustStop

some_is : (p q : Trust) → ◌≡◌ {A = Read} (Some p) (Some q) → p ≡ q
some_is p q e = cc

some_none : (p : Trust) → ◌≡◌ {A = Read} (Some p) None → ⊥
some_none p e = cc

module _ (items : OneItem) (faults : OneWholeFault) (never : NeverBoth) (bytes : List ℕ) where
  -- two items that the bytes spell are read alike
  alike : (i j : Item) (r s : Read) → Spells Strict i bytes → trust_in i ≡ r → Spells Strict j bytes → trust_in j ≡ s → r ≡ s
  alike i j r s p e q f = sym e ∙ ap trust_in (items Strict bytes i j p q) ∙ f

  one : (a b : Answer) → AnswerOf bytes a → AnswerOf bytes b → a ≡ b
  one (Ok p) (Ok q) (i, s, e) (j, t, f) = ap (λ (x : Trust). let r : Answer = Ok x in r) (some_is p q (alike i j (Some p) (Some q) s e t f))
  one (Ok p) (Err (Cbor fault)) (i, s, e) q = absurd (never Strict bytes i fault s q)
  one (Ok p) (Err BadTrust) (i, s, e) (j, t, f) = absurd (some_none p (alike i j (Some p) None s e t f))
  one (Ok p) (Err OutOfMemory) h q = absurd q
  one (Err (Cbor fault)) (Ok q) p (j, t, f) = absurd (never Strict bytes j fault t p)
  one (Err (Cbor fault)) (Err (Cbor other)) p q = ap (λ (x : Fault). let r : Answer = Err (Cbor x) in r) (faults Strict bytes fault other p q)
  one (Err (Cbor fault)) (Err BadTrust) p (j, t, f) = absurd (never Strict bytes j fault t p)
  one (Err (Cbor fault)) (Err OutOfMemory) p q = absurd q
  one (Err BadTrust) (Ok q) (i, s, e) (j, t, f) = absurd (some_none q (alike j i (Some q) None t f s e))
  one (Err BadTrust) (Err (Cbor fault)) (i, s, e) q = absurd (never Strict bytes i fault s q)
  one (Err BadTrust) (Err BadTrust) p q = refl
  one (Err BadTrust) (Err OutOfMemory) p q = absurd q
  one (Err OutOfMemory) b p q = absurd p

pub one_answer : OneItem → OneWholeFault → NeverBoth → OneAnswer
one_answer items faults never bytes a b p q = one items faults never bytes a b p q

abbrev HasAnswer : List ℕ → Type 0
HasAnswer bytes = (answer : Answer) × AnswerOf bytes answer

read_as : (bytes : List ℕ) (item : Item) → Spells Strict item bytes → (r : Read) → trust_in item ≡ r → HasAnswer bytes
read_as bytes item spelled (Some p) e = (Ok p, (item, spelled, e))
read_as bytes item spelled None e = (Err BadTrust, (item, spelled, e))

pub some_answer : ItemOrFault → SomeAnswer
some_answer either bytes fits = elim (either Strict bytes fits) [
  | inl found ↦ read_as bytes found.0 found.1 (trust_in found.0) refl
  | inr fault ↦ (Err (Cbor fault.0), fault.1)
]

by_item : ItemIsSpelled → (bytes : List ℕ) (p : Trust) → IsBytes bytes → (o : Option Item) → strict_item bytes ≡ o → option_and_then trust_in o ≡ Some p → TrustOf bytes p
by_item spelled bytes p fits None is e = cc
by_item spelled bytes p fits (Some item) is e = (item, spelled bytes item fits is, e)

pub trust_exact : ItemIsSpelled → SpelledIsItem → TrustIsExact
unfolding trust_of
trust_exact spelled given bytes p fits = (
  (λ e. by_item spelled bytes p fits (strict_item bytes) refl e),
  (λ h. ap (λ (o : Option Item). option_and_then trust_in o) (given bytes h.0 h.1) ∙ h.2),
)
