-- For all bytes there is one answer: the statement that they are, or the first rule that fails.
use Rattle.std.specs.Prelude.{◌≡◌, ℕ, List, Result, Ok, Err}
use Rattle.cbor_core.specs.Bytes.{IsBytes}
use Rattle.statement.specs.declared.statement_type.Statement.{Statement}
use Rattle.statement.specs.declared.stops.ParseStop.{ParseStop}
use Rattle.statement.specs.Statements.{ParseFault}
use Rattle.statement.specs.Parsed.{StatementOf}

-- the statement, or the first rule that fails
abbrev pub AnswerOf : List ℕ → Result Statement ParseStop → Type 0
AnswerOf bytes (Ok s) = StatementOf bytes s
AnswerOf bytes (Err stop) = ParseFault bytes stop

-- there is one
abbrev pub SomeAnswer : Type 0
SomeAnswer = (bytes : List ℕ) → IsBytes bytes → (answer : Result Statement ParseStop) × AnswerOf bytes answer

-- and no two
abbrev pub OneAnswer : Type 0
OneAnswer = (bytes : List ℕ) (a b : Result Statement ParseStop) → AnswerOf bytes a → AnswerOf bytes b → a ≡ b
