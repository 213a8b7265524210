-- Bytes have one answer as a parameter file: the item that they spell determines it.
use Rattle.std.proofs.Common.{◌≡◌, ℕ, List, Option, Some, None, Result, Ok, Err, refl, sym, ap, ◌∙◌, inl, inr}
use Rattle.cbor_core.specs.declared.words.Grammar.TheVariants.{Strict}
use Rattle.cbor_core.specs.declared.words.Fault.{Fault}
use Rattle.cbor_core.specs.declared.tree.Item.{Item}
use Rattle.cbor_core.specs.Spells.{Spells}
use Rattle.cbor_core.specs.Decoding.{ItemOrFault, NeverBoth, OneItem, OneWholeFault}
use Rattle.registrar.specs.declared.words.Params.{Params}
use Rattle.log_params.specs.declared.stop.ParamsStop.{ParamsStop}
use Rattle.log_params.specs.declared.stop.ParamsStop.TheVariants.{Cbor, BadParams, OutOfMemory}
use Rattle.log_params.specs.ParamFiles.{params_file_in}
use Rattle.log_params.specs.OneAnswer.{AnswerOf, SomeAnswer, OneAnswer}

abbrev Read : Type 0
Read = Option Params

abbrev Answer : Type 0
Answer = Result Params ParamsStop

some_is : (p q : Params) → ◌≡◌ {A = Read} (Some p) (Some q) → p ≡ q
some_is p q e = cc

some_none : (p : Params) → ◌≡◌ {A = Read} (Some p) None → ⊥
some_none p e = cc

module _ (items : OneItem) (faults : OneWholeFault) (never : NeverBoth) (bytes : List ℕ) where
  -- two items that the bytes spell are read alike
  alike : (i j : Item) (r s : Read) → Spells Strict i bytes → params_file_in i ≡ r → Spells Strict j bytes → params_file_in j ≡ s → r ≡ s
  alike i j r s p e q f = sym e ∙ ap params_file_in (items Strict bytes i j p q) ∙ f

  one : (a b : Answer) → AnswerOf bytes a → AnswerOf bytes b → a ≡ b
  one (Ok p) (Ok q) (i, s, e) (j, t, f) = ap (λ (x : Params). let r : Answer = Ok x in r) (some_is p q (alike i j (Some p) (Some q) s e t f))
  one (Ok p) (Err (Cbor fault)) (i, s, e) q = absurd (never Strict bytes i fault s q)
  one (Ok p) (Err BadParams) (i, s, e) (j, t, f) = absurd (some_none p (alike i j (Some p) None s e t f))
  one (Ok p) (Err OutOfMemory) h q = absurd q
  one (Err (Cbor fault)) (Ok q) p (j, t, f) = absurd (never Strict bytes j fault t p)
  one (Err (Cbor fault)) (Err (Cbor other)) p q = ap (λ (x : Fault). let r : Answer = Err (Cbor x) in r) (faults Strict bytes fault other p q)
  one (Err (Cbor fault)) (Err BadParams) p (j, t, f) = absurd (never Strict bytes j fault t p)
  one (Err (Cbor fault)) (Err OutOfMemory) p q = absurd q
  one (Err BadParams) (Ok q) (i, s, e) (j, t, f) = absurd (some_none q (alike j i (Some q) None t f s e))
  one (Err BadParams) (Err (Cbor fault)) (i, s, e) q = absurd (never Strict bytes i fault s q)
  one (Err BadParams) (Err BadParams) p q = refl
  one (Err BadParams) (Err OutOfMemory) p q = absurd q
  one (Err OutOfMemory) b p q = absurd p

pub one_answer : OneItem → OneWholeFault → NeverBoth → OneAnswer
one_answer items faults never bytes a b p q = one items faults never bytes a b p q

abbrev HasAnswer : List ℕ → Type 0
HasAnswer bytes = (answer : Answer) × AnswerOf bytes answer

read_as : (bytes : List ℕ) (item : Item) → Spells Strict item bytes → (r : Read) → params_file_in item ≡ r → HasAnswer bytes
read_as bytes item spelled (Some p) e = (Ok p, (item, spelled, e))
read_as bytes item spelled None e = (Err BadParams, (item, spelled, e))

pub some_answer : ItemOrFault → SomeAnswer
some_answer either bytes fits = elim (either Strict bytes fits) [
  | inl found ↦ read_as bytes found.0 found.1 (params_file_in found.0) refl
  | inr fault ↦ (Err (Cbor fault.0), fault.1)
]
