-- For all bytes there is one answer: the message that they are, or the first step that fails.
use Rattle.std.specs.Prelude.{◌≡◌, ℕ, List, Result, Ok, Err}
use Rattle.cbor_core.specs.Bytes.{IsBytes}
use Rattle.cose_sign1.specs.declared.sign1.Sign1.{Sign1}
use Rattle.cose_sign1.specs.declared.stops.Sign1Stop.{Sign1Stop}
use Rattle.cose_sign1.specs.Sign1Of.{Sign1Of, Sign1Fault}

-- the message, or the first step that fails
abbrev pub AnswerOf : List ℕ → Result Sign1 Sign1Stop → Type 0
AnswerOf bytes (Ok v) = Sign1Of bytes v
AnswerOf bytes (Err stop) = Sign1Fault bytes stop

-- there is one
abbrev pub SomeAnswer : Type 0
SomeAnswer = (bytes : List ℕ) → IsBytes bytes → (answer : Result Sign1 Sign1Stop) × AnswerOf bytes answer

-- and no two
abbrev pub OneAnswer : Type 0
OneAnswer = (bytes : List ℕ) (a b : Result Sign1 Sign1Stop) → AnswerOf bytes a → AnswerOf bytes b → a ≡ b
