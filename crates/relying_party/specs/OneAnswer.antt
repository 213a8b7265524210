-- For all bytes there is one answer: as a trust file, and as a transparent statement.
use Rattle.std.specs.Prelude.{◌≡◌, ℕ, List, Some, Result, Ok, Err, ◌↔◌}
use Rattle.cbor_core.specs.Bytes.{IsBytes}
use Rattle.relying_party.specs.declared.trust.Trust.{Trust}
use Rattle.relying_party.specs.declared.trust.TrustStop.{TrustStop}
use Rattle.relying_party.specs.declared.answers.Verdict.{Verdict}
use Rattle.relying_party.specs.TrustFiles.{TrustOf, TrustFault, trust_of}
use Rattle.relying_party.specs.Accepts.{Accepts}

-- the trust file, or why they are none
abbrev pub AnswerOf : List ℕ → Result Trust TrustStop → Type 0
AnswerOf bytes (Ok trust) = TrustOf bytes trust
AnswerOf bytes (Err stop) = TrustFault bytes stop

-- there is one
abbrev pub SomeAnswer : Type 0
SomeAnswer = (bytes : List ℕ) → IsBytes bytes → (answer : Result Trust TrustStop) × AnswerOf bytes answer

-- and no two
abbrev pub OneAnswer : Type 0
OneAnswer = (bytes : List ℕ) (a b : Result Trust TrustStop) → AnswerOf bytes a → AnswerOf bytes b → a ≡ b

-- the function gives a trust file exactly where the bytes are one
abbrev pub TrustIsExact : Type 0
TrustIsExact = (bytes : List ℕ) (trust : Trust) → IsBytes bytes → (trust_of bytes ≡ Some trust) ↔ TrustOf bytes trust

-- under a trust there is one verdict on bytes
abbrev pub SomeVerdict : Type 0
SomeVerdict = (trust : Trust) (bytes : List ℕ) → IsBytes bytes → (v : Verdict) × Accepts trust bytes v

-- and no two
abbrev pub OneVerdict : Type 0
OneVerdict = (trust : Trust) (bytes : List ℕ) (a b : Verdict) → Accepts trust bytes a → Accepts trust bytes b → a ≡ b
