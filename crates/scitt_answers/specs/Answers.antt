-- The answer that a reply of the log gets.
use Rattle.std.specs.Prelude.{ℕ, List, Result, Ok, Err, Option, None, Some}
use Rattle.http_wire.specs.declared.answer.Answer.{Answer}
use Rattle.http_wire.specs.declared.answer.BodyKind.{BodyKind}
use Rattle.http_wire.specs.declared.answer.BodyKind.TheVariants as kinds
use Rattle.http_wire.specs.declared.answer.Allow.TheVariants as allow
use Rattle.registrar.specs.declared.words.Outcome.{Outcome}
use Rattle.registrar.specs.declared.words.Outcome.TheVariants as outcome
use Rattle.registrar.specs.declared.words.ReadBack.{ReadBack}
use Rattle.registrar.specs.declared.words.ReadBack.TheVariants as stop
use Rattle.registrar.specs.Turns.{registered, read, made, hint}
use Rattle.registrar.specs.Turns.{Answer as Reply}
use Rattle.scitt_answers.specs.declared.replying.Manner.{Manner}
use Rattle.scitt_answers.specs.declared.problem.Problem.{Problem}
use Rattle.scitt_answers.specs.declared.problem.Problem.TheVariants as problem
use Rattle.scitt_answers.specs.Problems.{kind_of, allow_of, problem_bytes}

-- an answer with a body of the log's; where it is that of an entry that was registered it names the entry's place
abbrev pub body_answer : ℕ → BodyKind → List ℕ → Option ℕ → ℕ → Manner → Answer
body_answer status kind body location size manner =
    record { status = status; kind = kind; body = body; size = size; location = location; allow = allow.Absent; close = manner.close; head_only = manner.head_only }

abbrev pub problem_answer : Problem → ℕ → Manner → Answer
problem_answer p size manner =
    record { status = (kind_of p).status; kind = kinds.Problem; body = problem_bytes p size; size = size; location = None; allow = allow_of p; close = manner.close; head_only = manner.head_only }

-- to a registration
abbrev pub registered_answer : Outcome → ℕ → Manner → Answer
registered_answer (outcome.Admitted index receipt) size manner = body_answer 201 kinds.Cose receipt (Some index) size manner
registered_answer (outcome.Known index receipt) size manner = body_answer 200 kinds.Cose receipt (Some index) size manner
registered_answer (outcome.Denied rule n moment) size manner = problem_answer (problem.Denied rule moment) size manner
registered_answer (outcome.LogFull entries bytes) size manner = problem_answer (problem.LogFull entries bytes) size manner
registered_answer (outcome.KeyExhausted next capacity) size manner = problem_answer (problem.KeyExhausted next capacity) size manner
registered_answer outcome.OutOfMemory size manner = problem_answer problem.OutOfMemory size manner
registered_answer outcome.DiskFault size manner = problem_answer problem.DiskFault size manner
registered_answer (outcome.Changed number) size manner = problem_answer (problem.DiskChanged number) size manner

-- to a receipt, a statement or a consistency receipt that was read back
abbrev pub read_answer : Result (List ℕ) ReadBack → ℕ → Manner → Answer
read_answer (Ok bytes) size manner = body_answer 200 kinds.Cose bytes None size manner
read_answer (Err (stop.NoEntry index n)) size manner = problem_answer (problem.NoEntry index) size manner
read_answer (Err (stop.NoSuchSize old n)) size manner = problem_answer (problem.NoSuchSize old) size manner
read_answer (Err (stop.Changed number)) size manner = problem_answer (problem.DiskChanged number) size manner
read_answer (Err stop.DiskFault) size manner = problem_answer problem.DiskFault size manner
read_answer (Err stop.OutOfMemory) size manner = problem_answer problem.OutOfMemory size manner

-- to the key set or the policy in force; nothing was made for want of memory
abbrev pub made_answer : Option (List ℕ) → ℕ → Manner → Answer
made_answer (Some bytes) size manner = body_answer 200 kinds.Cbor bytes None size manner
made_answer None size manner = problem_answer problem.OutOfMemory size manner

-- the answer that tells a reply; a key that is named isn't told
abbrev pub reply_answer : Reply → ℕ → Manner → Option Answer
reply_answer (registered o) size manner = Some (registered_answer o size manner)
reply_answer (read r) size manner = Some (read_answer r size manner)
reply_answer (made b) size manner = Some (made_answer b size manner)
reply_answer (hint k) size manner = None
