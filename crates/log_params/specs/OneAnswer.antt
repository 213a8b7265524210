-- For all bytes there is one answer as a parameter file.
use Rattle.std.specs.Prelude.{◌≡◌, ℕ, List, Result, Ok, Err}
use Rattle.cbor_core.specs.Bytes.{IsBytes}
use Rattle.registrar.specs.declared.words.Params.{Params}
use Rattle.log_params.specs.declared.stop.ParamsStop.{ParamsStop}
use Rattle.log_params.specs.ParamFiles.{ParamsOf, ParamsFault}

-- the parameters, or why they are none
abbrev pub AnswerOf : List ℕ → Result Params ParamsStop → Type 0
AnswerOf bytes (Ok params) = ParamsOf bytes params
AnswerOf bytes (Err stop) = ParamsFault bytes stop

-- there is one
abbrev pub SomeAnswer : Type 0
SomeAnswer = (bytes : List ℕ) → IsBytes bytes → (answer : Result Params ParamsStop) × AnswerOf bytes answer

-- and no two
abbrev pub OneAnswer : Type 0
OneAnswer = (bytes : List ℕ) (a b : Result Params ParamsStop) → AnswerOf bytes a → AnswerOf bytes b → a ≡ b
