-- A request, or a head that is refused, with its answer, and the turns that were made for it.
use Rattle.std.specs.Prelude.{◌≡◌, ℕ, ◌+◌, List, [], ◌∷◌, Bool, true, ◌==◌, Ok, Err, Option, Some, is_some}
use Rattle.scitt_io.specs.Causes.{Rose}
use Rattle.scitt_io.specs.Moments.{Ticks}
use Rattle.http_wire.specs.declared.request.Request.{Request}
use Rattle.http_wire.specs.declared.request.HeadFault.{HeadFault}
use Rattle.http_wire.specs.declared.answer.Answer.{Answer}
use Rattle.statement.specs.declared.statement_type.Statement.{Statement}
use Rattle.statement.specs.declared.stops.ParseStop.{ParseStop}
use Rattle.statement.specs.Statements.{ParseFault}
use Rattle.statement.specs.Parsed.{StatementOf}
use Rattle.statement.specs.Said.{said_of}
use Rattle.registrar.specs.declared.words.Outcome.{Outcome}
use Rattle.registrar.specs.Turns.{Call, register_call, key_hint_call, registered, hint}
use Rattle.registrar.specs.Turns.{Answer as Reply}
use Rattle.scitt_answers.specs.declared.problem.Problem.{Problem}
use Rattle.scitt_answers.specs.declared.problem.Problem.TheVariants as problem
use Rattle.scitt_answers.specs.declared.asking.Ask.{Ask}
use Rattle.scitt_answers.specs.declared.asking.Ask.TheVariants as ask
use Rattle.scitt_answers.specs.Problems.{head_problem}
use Rattle.scitt_answers.specs.Statements.{parse_problem}
use Rattle.scitt_answers.specs.declared.replying.Manner.{Manner}
use Rattle.scitt_answers.specs.Answers.{problem_answer, registered_answer, reply_answer}
use Rattle.scitt_answers.specs.Asking.{ask_of, call_of, manner_of}
use Rattle.scitt_answers.specs.Marks.{Step, Doing, asks, looks, AreSteps, LeavesSize}

-- a clock: how many readings were refused so far, how often it was asked, and the moments to come, where it tells them
pub record ClockState : Type 0 where
  pub misses : ℕ
  pub readings : ℕ
  pub moments : Option (ℕ → Option ℕ)

-- the state that a clock is in
abbrev pub state_of : {C : Type 0} → (C → ℕ) → (C → ℕ) → (C → Option (ℕ → Option ℕ)) → C → ClockState
state_of misses readings moments c = record { misses = misses c; readings = readings c; moments = moments c }

-- it was asked once, and gave this moment
pub record Reads (before after : ClockState) (moment : ℕ) : Type 0 where
  pub misses : after.misses ≡ before.misses
  pub readings : after.readings ≡ before.readings + 1
  pub moments : Ticks {E = Unit {0}} before.moments after.moments (Ok moment)
  pub telling : is_some after.moments ≡ is_some before.moments

-- it was asked once, and refused
pub record Misses (before after : ClockState) : Type 0 where
  pub misses : Rose before.misses after.misses
  pub readings : after.readings ≡ before.readings + 1
  pub moments : Ticks {E = Unit {0}} before.moments after.moments (Err tt)
  pub telling : is_some after.moments ≡ is_some before.moments

-- what an answer is given to
pub data Asked : Type 0 where
  request : Request → Asked
  refused : HeadFault → Bool → Asked

pub record Exchange : Type 0 where
  pub asked : Asked
  pub clock_before : ClockState
  pub clock_after : ClockState
  pub steps : List Step
  pub answer : Answer

abbrev pub exchange_of : Asked → ClockState → ClockState → List Step → Answer → Exchange
exchange_of asked before after steps answer =
    record { asked = asked; clock_before = before; clock_after = after; steps = steps; answer = answer }

-- one turn was made, and this was done in it
abbrev pub DoesOne : List Step → Doing → Type 0
DoesOne (s ∷ []) does = s.does ≡ does
DoesOne _ does = ⊥

-- two turns were made
abbrev pub DoesTwo : List Step → Doing → Doing → Type 0
DoesTwo (s ∷ t ∷ []) first second = (s.does ≡ first) × (t.does ≡ second)
DoesTwo _ first second = ⊥

-- the problem is answered, with the size that a turn of its own found, and the clock isn't asked
pub record Refuses (p : Problem) (manner : Manner) (e : Exchange) : Type 0 where
  pub steps : DoesOne e.steps looks
  pub answer : e.answer ≡ problem_answer p e.answer.size manner
  pub clock : e.clock_after ≡ e.clock_before

-- the call is made, and its reply answered
pub record Tells (call : Call) (manner : Manner) (e : Exchange) : Type 0 where
  pub reply : Reply
  pub steps : DoesOne e.steps (asks call reply)
  pub answer : reply_answer reply e.answer.size manner ≡ Some e.answer
  pub clock : e.clock_after ≡ e.clock_before

-- the body is no statement
pub record RefusesBody (body : List ℕ) (manner : Manner) (e : Exchange) : Type 0 where
  pub stop : ParseStop
  pub fault : ParseFault body stop
  pub refuses : Refuses (parse_problem stop) manner e

-- the body is a statement, and the clock gave no moment
pub record LacksMoment (body : List ℕ) (manner : Manner) (e : Exchange) : Type 0 where
  pub statement : Statement
  pub of_body : StatementOf body statement
  pub steps : DoesOne e.steps looks
  pub answer : e.answer ≡ problem_answer problem.ClockFault e.answer.size manner
  pub clock : Misses e.clock_before e.clock_after

-- the body is a statement, which is registered at the clock's moment: a turn names the key to check it by, and another takes it
pub record Registers (body : List ℕ) (manner : Manner) (e : Exchange) : Type 0 where
  pub statement : Statement
  pub of_body : StatementOf body statement
  pub moment : ℕ
  pub clock : Reads e.clock_before e.clock_after moment
  pub key : Option (List ℕ)
  pub outcome : Outcome
  pub steps : DoesTwo e.steps (asks (key_hint_call (said_of statement)) (hint key)) (asks (register_call (said_of statement) moment) (registered outcome))
  pub answer : e.answer ≡ registered_answer outcome e.answer.size manner

-- memory ran out before the body was read as a statement
abbrev pub LacksMemoryToRead : Manner → Exchange → Type 0
LacksMemoryToRead manner e = Refuses problem.OutOfMemory manner e

-- memory ran out before the statement was checked
pub record LacksMemoryToCheck (body : List ℕ) (manner : Manner) (e : Exchange) : Type 0 where
  pub statement : Statement
  pub of_body : StatementOf body statement
  pub moment : ℕ
  pub clock : Reads e.clock_before e.clock_after moment
  pub key : Option (List ℕ)
  pub steps : DoesTwo e.steps (asks (key_hint_call (said_of statement)) (hint key)) looks
  pub answer : e.answer ≡ problem_answer problem.OutOfMemory e.answer.size manner

pub data AnswersBody (body : List ℕ) (manner : Manner) (e : Exchange) : Type 0 where
  refuses_body : RefusesBody body manner e → AnswersBody body manner e
  lacks_moment : LacksMoment body manner e → AnswersBody body manner e
  registers : Registers body manner e → AnswersBody body manner e
  lacks_memory_to_read : LacksMemoryToRead manner e → AnswersBody body manner e
  lacks_memory_to_check : LacksMemoryToCheck body manner e → AnswersBody body manner e

-- the answer to what a request asks for
abbrev pub AnswersAsk : Ask → List ℕ → Manner → Exchange → Type 0
AnswersAsk (ask.Refuse p) body manner e = Refuses p manner e
AnswersAsk (ask.Read r) body manner e = Tells (call_of r) manner e
AnswersAsk ask.Register body manner e = AnswersBody body manner e

abbrev pub Answers : Bool → Exchange → Asked → Type 0
Answers is_last e (request q) = AnswersAsk (ask_of q) q.body (manner_of is_last q) e
Answers is_last e (refused why of_head) = Refuses (head_problem why) (record { close = true; head_only = of_head }) e

-- an exchange, of which the last of a session is the 1,000th; it prints the size that its last turn left
pub record IsExchange (tells is_last : Bool) (e : Exchange) : Type 0 where
  pub turns : AreSteps tells e.steps
  pub size : LeavesSize e.steps e.answer.size
  pub answers : Answers is_last e e.asked

abbrev pub EachIs : Bool → ℕ → List Exchange → Type 0
EachIs tells number [] = Unit {0}
EachIs tells number (e ∷ es) = IsExchange tells (number == 1000) e × EachIs tells (number + 1) es

-- the clock's states before and after each answer are one list
abbrev pub Counts : ClockState → List Exchange → ClockState → Type 0
Counts from [] to = to ≡ from
Counts from (e ∷ es) to = (e.clock_before ≡ from) × Counts e.clock_after es to
