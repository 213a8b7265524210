-- The answer to a registration, by the judgement of the log that its turn found.
use Rattle.std.specs.Prelude.{◌≡◌, ℕ, ◌⊎◌, List, [], ◌∷◌, length, Bool, IsTrue, Option, None, Some}
use Rattle.scitt_io.specs.Causes.{Rose}
use Rattle.http_wire.specs.declared.request.Request.{Request}
use Rattle.http_wire.specs.declared.answer.Answer.{Answer}
use Rattle.http_wire.specs.declared.answer.BodyKind.TheVariants as kinds
use Rattle.statement.specs.declared.statement_type.Statement.{Statement}
use Rattle.statement.specs.Parsed.{StatementOf}
use Rattle.statement.specs.Said.{Said, said_of}
use Rattle.log_replay.specs.declared.words.Judgement.{Judgement}
use Rattle.log_replay.specs.declared.words.Judgement.TheVariants as judged
use Rattle.log_replay.specs.Records.{Log, entries_of}
use Rattle.log_replay.specs.Judging.{judgement_of, moment_after}
use Rattle.log_replay.specs.Answers.{receipt_of}
use Rattle.registrar.specs.declared.words.Outcome.{Outcome}
use Rattle.registrar.specs.declared.words.Outcome.TheVariants as outcome
use Rattle.registrar.specs.Turns.{Standing, Registers, ruling_of, goes}
use Rattle.scitt_answers.specs.declared.problem.Problem.TheVariants as problem
use Rattle.scitt_answers.specs.declared.replying.Manner.{Manner}
use Rattle.scitt_answers.specs.declared.asking.Ask.TheVariants as ask
use Rattle.scitt_answers.specs.Asking.{ask_of, manner_of}
use Rattle.scitt_answers.specs.Marks.{Step}
use Rattle.scitt_answers.specs.Exchanges.{ClockState, Reads, request, Exchange, IsExchange}
use Rattle.scitt_answers.specs.Answers.{body_answer, problem_answer, registered_answer}

abbrev pub receipt_answer : ℕ → Option (List ℕ) → ℕ → ℕ → Manner → Option Answer
receipt_answer status None index size manner = None
receipt_answer status (Some receipt) index size manner = Some (body_answer status kinds.Cose receipt (Some index) size manner)

-- the turn found the first log and left the second, at this moment
abbrev pub judged_answer : Log → Log → ℕ → Option Judgement → Manner → Option Answer
judged_answer found left m None manner = None
judged_answer found left m (Some (judged.Known i)) manner = receipt_answer 200 (receipt_of found i) i (length (entries_of left)) manner
judged_answer found left m (Some (judged.Deny rule)) manner =
    Some (problem_answer (problem.Denied rule (moment_after (entries_of found) m)) (length (entries_of left)) manner)
judged_answer found left m (Some (judged.Admit rule)) manner =
    receipt_answer 201 (receipt_of left (length (entries_of found))) (length (entries_of found)) (length (entries_of left)) manner

-- an answer of its own, with its cause
abbrev pub HasOwnCause : Outcome → Type 0
HasOwnCause (outcome.Known i receipt) = ⊥
HasOwnCause (outcome.Denied rule size moment) = ⊥
HasOwnCause (outcome.Admitted i receipt) = ⊥
HasOwnCause _ = Unit {0}

-- a receipt that was read back is claimed where the disk tells what it holds
abbrev pub WhereTold : Type 0 → Outcome → Type 0 → Type 0
WhereTold Tells (outcome.Known i receipt) Fact = Tells → Fact
WhereTold Tells o Fact = Fact

-- the answer to a registration is that of the judgement of the log found, or has a cause of its own
abbrev pub AnswersAreJudged : Type 0
AnswersAreJudged =
    (tells : Bool) (old new : Standing) (s : Said) (m : ℕ) (o : Outcome) (manner : Manner) → Registers (IsTrue tells) old s m o new
    → HasOwnCause o ⊎ WhereTold (IsTrue tells) o (judged_answer old.log new.log m (judgement_of old.log s m) manner ≡ Some (registered_answer o (length (entries_of new.log)) manner))

-- ---- what is good is taken

-- this holds of the last of the steps
abbrev pub OfLast : (Step → Type 0) → List Step → Type 0
OfLast P [] = Unit {0}
OfLast P (s ∷ []) = P s
OfLast P (s ∷ t ∷ steps) = OfLast P (t ∷ steps)

-- whatever moment the clock gave, the log that the turn found admits the statement then, and has room and an index
abbrev pub Goes : Said → ClockState → ClockState → Step → Type 0
Goes said before after s = (m : ℕ) → Reads before after m → (rule : ℕ) × (ruling_of s.found.standing said m ≡ Some (goes rule))

abbrev pub DiskHolds : Step → Type 0
DiskHolds s = Rose s.found.faults s.left.faults → ⊥

-- it is answered with its entry's place and receipt, or memory was wanting
pub data IsTaken (manner : Manner) (answer : Answer) : Type 0 where
  taken : (index : ℕ) (receipt : List ℕ) → answer ≡ body_answer 201 kinds.Cose receipt (Some index) answer.size manner → IsTaken manner answer
  lacks_memory : answer ≡ problem_answer problem.OutOfMemory answer.size manner → IsTaken manner answer

-- a registration of a statement that goes is answered so where neither the clock's count nor the disk's rose
abbrev pub GoodIsTaken : Type 0
GoodIsTaken =
    (tells is_last : Bool) (e : Exchange) (q : Request) (s : Statement) → IsExchange tells is_last e → e.asked ≡ request q → ask_of q ≡ ask.Register → StatementOf q.body s
    → (Rose e.clock_before.misses e.clock_after.misses → ⊥) → OfLast DiskHolds e.steps → OfLast (Goes (said_of s) e.clock_before e.clock_after) e.steps
    → IsTaken (manner_of is_last q) e.answer
