-- For all bytes there is one answer: the document that they are, or the first thing that is wrong with them.
use Rattle.std.specs.Prelude.{◌≡◌, ℕ, List, Some, Result, Ok, Err, ◌↔◌}
use Rattle.cbor_core.specs.Bytes.{IsBytes}
use Rattle.policy_rules.specs.declared.documents.Policy.{Policy}
use Rattle.policy_rules.specs.declared.documents.PolicyStop.{PolicyStop}
use Rattle.policy_rules.specs.Documents.{PolicyOf, PolicyFault, document_of}

-- the document, or why they are none
abbrev pub AnswerOf : List ℕ → Result Policy PolicyStop → Type 0
AnswerOf bytes (Ok policy) = PolicyOf bytes policy
AnswerOf bytes (Err stop) = PolicyFault bytes stop

-- there is one
abbrev pub SomeAnswer : Type 0
SomeAnswer = (bytes : List ℕ) → IsBytes bytes → (answer : Result Policy PolicyStop) × AnswerOf bytes answer

-- and no two
abbrev pub OneAnswer : Type 0
OneAnswer = (bytes : List ℕ) (a b : Result Policy PolicyStop) → AnswerOf bytes a → AnswerOf bytes b → a ≡ b

-- the function gives a document exactly where the bytes are one
abbrev pub DocumentIsExact : Type 0
DocumentIsExact = (bytes : List ℕ) (policy : Policy) → IsBytes bytes → (document_of bytes ≡ Some policy) ↔ PolicyOf bytes policy
