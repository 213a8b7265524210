-- Answers with the turns made for them.
use Rattle.std.proofs.Common.{◌≡◌, ℕ, List, [], ◌∷◌, Bool, Option, None, Some, Result, Ok, Err, refl, sym, ap, ◌∙◌, subst}
use Rattle.scitt_io.specs.Moments.{Ticks}
use Rattle.http_wire.specs.declared.answer.Answer.{Answer}
use Rattle.http_wire.specs.declared.request.Request.{Request}
use Rattle.statement.specs.declared.statement_type.Statement.{Statement}
use Rattle.statement.specs.declared.stops.ParseStop.{ParseStop}
use Rattle.statement.specs.declared.stops.ParseStop.TheVariants as parse
use Rattle.statement.specs.Parsed.{StatementOf, Parsed}
use Rattle.statement.specs.Said.{said_of}
use Rattle.registrar.specs.declared.words.Outcome.{Outcome}
use Rattle.registrar.specs.declared.words.Outcome.TheVariants as outcome
use Rattle.registrar.specs.declared.words.ReadBack.{ReadBack}
use Rattle.registrar.specs.declared.words.ReadBack.TheVariants as stop
use Rattle.registrar.specs.Turns.{Call, register_call, key_hint_call, registered, read, made, hint}
use Rattle.scitt_answers.specs.declared.problem.Problem.{Problem}
use Rattle.scitt_answers.specs.declared.problem.Problem.TheVariants as problem
use Rattle.scitt_answers.specs.declared.replying.Manner.{Manner}
use Rattle.scitt_answers.specs.Answers.{problem_answer, registered_answer, read_answer, made_answer}
use Rattle.scitt_answers.specs.Statements.{parse_problem}
use Rattle.scitt_answers.specs.declared.asking.Ask.{Ask}
use Rattle.scitt_answers.specs.declared.asking.Reading.{Reading}
use Rattle.scitt_answers.specs.Asking.{ask_of, call_of, manner_of}
use Rattle.scitt_answers.specs.Marks.{Mark, Step, Doing, asks, looks, Turned, TurnedTo}
use Rattle.scitt_answers.specs.Exchanges.{ClockState, Reads, Misses, Asked, request, exchange_of, Refuses, Tells, AnswersAsk, Answers, AnswersBody, refuses_body, lacks_moment, registers, lacks_memory_to_read, lacks_memory_to_check}
use Rattle.scitt_answers.specs.Sessions.{Answered}

read_size : (r : Result (List ℕ) ReadBack) (size : ℕ) (m : Manner) → (read_answer r size m).size ≡ size
read_size (Ok bytes) size m = refl
read_size (Err (stop.NoEntry index n)) size m = refl
read_size (Err (stop.NoSuchSize old n)) size m = refl
read_size (Err (stop.Changed number)) size m = refl
read_size (Err stop.DiskFault) size m = refl
read_size (Err stop.OutOfMemory) size m = refl

made_size : (b : Option (List ℕ)) (size : ℕ) (m : Manner) → (made_answer b size m).size ≡ size
made_size (Some bytes) size m = refl
made_size None size m = refl

registered_size : (o : Outcome) (size : ℕ) (m : Manner) → (registered_answer o size m).size ≡ size
registered_size (outcome.Admitted index receipt) size m = refl
registered_size (outcome.Known index receipt) size m = refl
registered_size (outcome.Denied rule n moment) size m = refl
registered_size (outcome.LogFull entries bytes) size m = refl
registered_size (outcome.KeyExhausted next capacity) size m = refl
registered_size outcome.OutOfMemory size m = refl
registered_size outcome.DiskFault size m = refl
registered_size (outcome.Changed number) size m = refl

-- what a reading tells of the moments, whatever its fault is
pub ticks_given : (E : Type 0) (old new : Option (ℕ → Option ℕ)) (m : ℕ) → Ticks {E = E} old new (Ok m) → Ticks {E = Unit {0}} old new (Ok m)
ticks_given E None new m h = tt
ticks_given E (Some f) new m h = h

pub ticks_missed : (E : Type 0) (old new : Option (ℕ → Option ℕ)) (e : E) → Ticks {E = E} old new (Err e) → Ticks {E = Unit {0}} old new (Err tt)
ticks_missed E None new e h = tt
ticks_missed E (Some f) new e h = h

abbrev pub step_of : {tells : Bool} {begins : Mark → Type 0} {last : Mark → Mark → Type 0} {does : Doing} → Turned tells begins last does → Step
step_of {tells} {begins} {last} {does} t = record { found = t.found; does = does; left = t.left }

-- one turn
one_turn : {tells : Bool} {begins : Mark → Type 0} {last : Mark → Mark → Type 0} {does : Doing} {size : ℕ} (follows : Mark → Mark → Type 0) (printed : ℕ) (Does : List Step → Type 0)
    → (t : TurnedTo tells begins last does size) → printed ≡ size → Does (step_of t.turned ∷ []) → Answered tells follows begins last printed Does
one_turn follows printed Does t e d = record {
  steps = step_of t.turned ∷ [];
  chain = (t.turned.begins_at, tt);
  latest = t.turned.last_is;
  turns = (t.turned.is_step, tt);
  leaves = e ∙ t.leaves;
  does = d;
}

-- and two, one behind the other
two_turns : {tells : Bool} {begins begins' : Mark → Type 0} {follows mid last : Mark → Mark → Type 0} {first second : Doing} {size : ℕ} (printed : ℕ) (Does : List Step → Type 0)
    → (t : Turned tells begins mid first) → ((found left next : Mark) → mid found left → begins' next → follows left next)
    → (u : TurnedTo tells begins' last second size) → printed ≡ size → Does (step_of t ∷ step_of u.turned ∷ []) → Answered tells follows begins last printed Does
two_turns printed Does t law u e d = record {
  steps = step_of t ∷ step_of u.turned ∷ [];
  chain = (t.begins_at, (law t.found t.left u.turned.found t.last_is u.turned.begins_at, tt));
  latest = u.turned.last_is;
  turns = (t.is_step, (u.turned.is_step, tt));
  leaves = e ∙ u.leaves;
  does = d;
}

-- a turn for the size
pub turned_problem : {tells : Bool} {begins : Mark → Type 0} {last : Mark → Mark → Type 0} {a : Answer} (p : Problem) (size : ℕ) (m : Manner)
    → TurnedTo tells begins last looks size → a ≡ problem_answer p size m → TurnedTo tells begins last looks a.size
turned_problem {tells} {begins} {last} p size m t e = subst (TurnedTo tells begins last looks) (sym (ap (λ (x : Answer). x.size) e)) t

pub problem_of_size : {a : Answer} (p : Problem) (size : ℕ) (m : Manner) → a ≡ problem_answer p size m → a ≡ problem_answer p a.size m
problem_of_size {a} p size m e = e ∙ ap (λ (n : ℕ). problem_answer p n m) (sym (ap (λ (x : Answer). x.size) e))

-- a body that was refused, by the parser's answer
body_refused : (asked : Asked) (m : Manner) (body : List ℕ) (clock : ClockState) (a : Answer) (s : Step) (stop : ParseStop) → s.does ≡ looks → a ≡ problem_answer (parse_problem stop) a.size m → Parsed body (Err stop)
    → AnswersBody body m (exchange_of asked clock clock (s ∷ []) a)
body_refused asked m body clock a s parse.OutOfMemory d e h = lacks_memory_to_read (record { steps = d; answer = e; clock = refl })
body_refused asked m body clock a s (parse.Sign1 why) d e h = refuses_body (record { stop = parse.Sign1 why; fault = h; refuses = record { steps = d; answer = e; clock = refl } })
body_refused asked m body clock a s parse.Detached d e h = refuses_body (record { stop = parse.Detached; fault = h; refuses = record { steps = d; answer = e; clock = refl } })
body_refused asked m body clock a s parse.NoClaims d e h = refuses_body (record { stop = parse.NoClaims; fault = h; refuses = record { steps = d; answer = e; clock = refl } })
body_refused asked m body clock a s parse.NoIssuer d e h = refuses_body (record { stop = parse.NoIssuer; fault = h; refuses = record { steps = d; answer = e; clock = refl } })
body_refused asked m body clock a s parse.NoSubject d e h = refuses_body (record { stop = parse.NoSubject; fault = h; refuses = record { steps = d; answer = e; clock = refl } })
body_refused asked m body clock a s parse.NoKid d e h = refuses_body (record { stop = parse.NoKid; fault = h; refuses = record { steps = d; answer = e; clock = refl } })
body_refused asked m body clock a s (parse.BadClaim n) d e h = refuses_body (record { stop = parse.BadClaim n; fault = h; refuses = record { steps = d; answer = e; clock = refl } })
body_refused asked m body clock a s parse.TooLarge d e h = refuses_body (record { stop = parse.TooLarge; fault = h; refuses = record { steps = d; answer = e; clock = refl } })

module _ {tells : Bool} {begins : Mark → Type 0} {last : Mark → Mark → Type 0} (follows : Mark → Mark → Type 0) (asked : Asked) (m : Manner) where
  pub refused_told : {a : Answer} (clock : ClockState) (p : Problem) → TurnedTo tells begins last looks a.size → a ≡ problem_answer p a.size m
      → Answered tells follows begins last a.size (λ steps. Refuses p m (exchange_of asked clock clock steps a))
  refused_told {a} clock p t e = one_turn follows a.size (λ steps. Refuses p m (exchange_of asked clock clock steps a)) t refl (record { steps = refl; answer = e; clock = refl })

  pub read_told : {a : Answer} {size : ℕ} {call : Call} (clock : ClockState) (what : Reading) (r : Result (List ℕ) ReadBack) → call_of what ≡ call → TurnedTo tells begins last (asks call (read r)) size
      → a ≡ read_answer r size m → Answered tells follows begins last a.size (λ steps. Tells (call_of what) m (exchange_of asked clock clock steps a))
  read_told {a} {size} clock what r is t e =
      let same : a.size ≡ size = ap (λ (x : Answer). x.size) e ∙ read_size r size m in
      one_turn follows a.size (λ steps. Tells (call_of what) m (exchange_of asked clock clock steps a)) (subst (λ (k : Call). TurnedTo tells begins last (asks k (read r)) size) (sym is) t) same
      (record { reply = read r; steps = refl; answer = ap (λ (n : ℕ). Some (read_answer r n m)) same ∙ ap (λ (x : Answer). Some x) (sym e); clock = refl })

  pub made_told : {a : Answer} {size : ℕ} {call : Call} (clock : ClockState) (what : Reading) (b : Option (List ℕ)) → call_of what ≡ call → TurnedTo tells begins last (asks call (made b)) size
      → a ≡ made_answer b size m → Answered tells follows begins last a.size (λ steps. Tells (call_of what) m (exchange_of asked clock clock steps a))
  made_told {a} {size} clock what b is t e =
      let same : a.size ≡ size = ap (λ (x : Answer). x.size) e ∙ made_size b size m in
      one_turn follows a.size (λ steps. Tells (call_of what) m (exchange_of asked clock clock steps a)) (subst (λ (k : Call). TurnedTo tells begins last (asks k (made b)) size) (sym is) t) same
      (record { reply = made b; steps = refl; answer = ap (λ (n : ℕ). Some (made_answer b n m)) same ∙ ap (λ (x : Answer). Some x) (sym e); clock = refl })

  pub moment_lacking : {a : Answer} (body : List ℕ) (s : Statement) (before after : ClockState) → TurnedTo tells begins last looks a.size → a ≡ problem_answer problem.ClockFault a.size m
      → StatementOf body s → Misses before after → Answered tells follows begins last a.size (λ steps. AnswersBody body m (exchange_of asked before after steps a))
  moment_lacking {a} body s before after t e of_body misses =
      one_turn follows a.size (λ steps. AnswersBody body m (exchange_of asked before after steps a)) t refl
      (lacks_moment (record { statement = s; of_body = of_body; steps = refl; answer = e; clock = misses }))

  pub body_told : {a : Answer} (body : List ℕ) (stop : ParseStop) (clock : ClockState) → TurnedTo tells begins last looks a.size → a ≡ problem_answer (parse_problem stop) a.size m → Parsed body (Err stop)
      → Answered tells follows begins last a.size (λ steps. AnswersBody body m (exchange_of asked clock clock steps a))
  body_told {a} body stop clock t e h =
      one_turn follows a.size (λ steps. AnswersBody body m (exchange_of asked clock clock steps a)) t refl (body_refused asked m body clock a (step_of t.turned) stop refl e h)

-- the key's hint, and then a registration or a look at the size
module _ {tells : Bool} {begins begins' : Mark → Type 0} {follows mid last : Mark → Mark → Type 0} (law : (found left next : Mark) → mid found left → begins' next → follows left next) (asked : Asked) (m : Manner) where
  pub registered_told : {a : Answer} {size moment : ℕ} {key : Option (List ℕ)} (body : List ℕ) (s checked : Statement) (before after : ClockState) (o : Outcome)
      → Turned tells begins mid (asks (key_hint_call (said_of s)) (hint key)) → checked ≡ s → TurnedTo tells begins' last (asks (register_call (said_of checked) moment) (registered o)) size
      → a ≡ registered_answer o size m → StatementOf body s → Reads before after moment
      → Answered tells follows begins last a.size (λ steps. AnswersBody body m (exchange_of asked before after steps a))
  registered_told {a} {size} {moment} {key} body s checked before after o t is u e of_body reads =
      let same : a.size ≡ size = ap (λ (x : Answer). x.size) e ∙ registered_size o size m in
      two_turns a.size (λ steps. AnswersBody body m (exchange_of asked before after steps a)) t law (subst (λ (x : Statement). TurnedTo tells begins' last (asks (register_call (said_of x) moment) (registered o)) size) is u) same
      (registers (record { statement = s; of_body = of_body; moment = moment; clock = reads; key = key; outcome = o; steps = (refl, refl); answer = e ∙ ap (λ (n : ℕ). registered_answer o n m) (sym same) }))

  pub unchecked_told : {a : Answer} {moment : ℕ} {key : Option (List ℕ)} (body : List ℕ) (s : Statement) (before after : ClockState)
      → Turned tells begins mid (asks (key_hint_call (said_of s)) (hint key)) → TurnedTo tells begins' last looks a.size
      → a ≡ problem_answer problem.OutOfMemory a.size m → StatementOf body s → Reads before after moment
      → Answered tells follows begins last a.size (λ steps. AnswersBody body m (exchange_of asked before after steps a))
  unchecked_told {a} {moment} {key} body s before after t u e of_body reads =
      two_turns a.size (λ steps. AnswersBody body m (exchange_of asked before after steps a)) t law u refl
      (lacks_memory_to_check (record { statement = s; of_body = of_body; moment = moment; clock = reads; key = key; steps = (refl, refl); answer = e }))

-- an answer to what a request asks for is one to the request
pub by_ask : {tells : Bool} {follows last : Mark → Mark → Type 0} {begins : Mark → Type 0} {size : ℕ} (q : Request) (a : Ask) (m : Manner) (is_last : Bool) (before after : ClockState) (answer : Answer)
    → a ≡ ask_of q → m ≡ manner_of is_last q
    → Answered tells follows begins last size (λ steps. AnswersAsk a q.body m (exchange_of (request q) before after steps answer))
    → Answered tells follows begins last size (λ steps. Answers is_last (exchange_of (request q) before after steps answer) (request q))
by_ask {tells} {follows} {last} {begins} {size} q a m is_last before after answer e f h =
    subst (λ (n : Manner). Answered tells follows begins last size (λ steps. AnswersAsk (ask_of q) q.body n (exchange_of (request q) before after steps answer))) f
    (subst (λ (b : Ask). Answered tells follows begins last size (λ steps. AnswersAsk b q.body m (exchange_of (request q) before after steps answer))) e h)
