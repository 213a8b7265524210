-- The answer to a registration is that of its judgement.
use Rattle.std.proofs.Common.{◌≡◌, ℕ, ◌==◌, nat_lt, inl, inr, List, [], ◌∷◌, length, Bool, true, false, IsTrue, Option, None, Some, Ok, Err, refl, sym, ap, ◌∙◌, subst}
use Rattle.std.specs.Prelude.{option_map, unwrap_or}
use Rattle.cbor_core.specs.Rows.{first_row}
use Rattle.hss_keys.specs.Levels.{capacity}
use Rattle.scitt_io.specs.Causes.{Rose}
use Rattle.http_wire.specs.declared.request.Request.{Request}
use Rattle.statement.specs.declared.statement_type.Statement.{Statement}
use Rattle.statement.specs.OneAnswer.{OneAnswer}
use Rattle.statement.specs.Parsed.{StatementOf}
use Rattle.statement.specs.Said.{Said, said_of}
use Rattle.log_replay.specs.declared.parts.Header.{Header}
use Rattle.log_replay.specs.declared.words.Judgement.{Judgement}
use Rattle.log_replay.specs.declared.words.Judgement.TheVariants as judged
use Rattle.log_replay.specs.Records.{entries_of, header_of}
use Rattle.log_replay.specs.Judging.{judge, judgement_of}
use Rattle.log_replay.specs.Answers.{receipt_of}
use Rattle.log_replay.specs.WellMade.{most_logged_bytes}
use Rattle.registrar.specs.declared.words.Outcome.{Outcome}
use Rattle.registrar.specs.declared.words.Outcome.TheVariants as outcome
use Rattle.registrar.specs.Fits.{IsFaultOf}
use Rattle.registrar.specs.Turns.{Standing, register_call, registered, Registers, Ruling, knows, denies, full, spent, goes, bytes_with, ruling_on, ruling_of}
use Rattle.http_wire.specs.declared.answer.Answer.{Answer}
use Rattle.scitt_answers.specs.declared.problem.Problem.TheVariants as problem
use Rattle.scitt_answers.specs.declared.replying.Manner.{Manner}
use Rattle.scitt_answers.specs.Answers.{problem_answer, registered_answer}
use Rattle.scitt_answers.specs.declared.asking.Ask.{Ask}
use Rattle.scitt_answers.specs.declared.asking.Ask.TheVariants as ask
use Rattle.scitt_answers.specs.Asking.{ask_of, manner_of}
use Rattle.scitt_answers.specs.Marks.{Step, Doing, asks, DoneIn, FaultsIn, IsStep, AreSteps}
use Rattle.scitt_answers.specs.Exchanges.{ClockState, Reads, request, Exchange, DoesTwo, AnswersAsk, AnswersBody, refuses_body, lacks_moment, registers, lacks_memory_to_read, lacks_memory_to_check, Answers}
use Rattle.scitt_answers.specs.Judged.{judged_answer, receipt_answer, AnswersAreJudged, OfLast, Goes, DiskHolds, IsTaken, taken, lacks_memory, GoodIsTaken}

-- what a ruling says of the judgement
abbrev Rules : Ruling → Judgement → Type 0
Rules (knows i) j = j ≡ judged.Known i
Rules (denies rule) j = j ≡ judged.Deny rule
Rules (goes rule) j = j ≡ judged.Admit rule
Rules _ j = Unit {0}

three_rows : (a b c : Bool) (e n f k next capacity rule : ℕ)
    → Rules (unwrap_or (first_row ((a, full e n) ∷ (b, full f k) ∷ (c, spent next capacity) ∷ [])) (goes rule)) (judged.Admit rule)
three_rows true b c e n f k next capacity rule = tt
three_rows false true c e n f k next capacity rule = tt
three_rows false false true e n f k next capacity rule = tt
three_rows false false false e n f k next capacity rule = refl

rules_on : (h : Header) (S : Standing) (s : Said) (j : Judgement) → Rules (ruling_on h S s j) j
rules_on h S s (judged.Known i) = refl
rules_on h S s (judged.Deny rule) = refl
rules_on h S s (judged.Admit rule) =
    let n : ℕ = length (entries_of S.log) in
    let bytes : ℕ = bytes_with S s in
    three_rows (n == h.max_entries) (nat_lt most_logged_bytes bytes) (S.next == capacity h.levels) n bytes n bytes S.next (capacity h.levels) rule

judged_from : (o : Option Header) (S : Standing) (s : Said) (J : Header → Judgement) (r : Ruling)
    → option_map (λ h. ruling_on h S s (J h)) o ≡ Some r → (h : Header) × (option_map J o ≡ Some (J h)) × Rules r (J h)
judged_from None S s J r e = cc e
judged_from (Some h) S s J r e =
    let same : ruling_on h S s (J h) ≡ r = cc e in (h, refl, subst (λ (x : Ruling). Rules x (J h)) same (rules_on h S s (J h)))

judged_of : (S : Standing) (s : Said) (m : ℕ) (r : Ruling) → ruling_of S s m ≡ Some r
    → (j : Judgement) × (judgement_of S.log s m ≡ Some j) × Rules r j
judged_of S s m r e =
    let f = judged_from (header_of S.log) S s (λ (h : Header). judge h (entries_of S.log) s m) r e in
    (judge f.0 (entries_of S.log) s m, f.1, f.2)

pub answers_are_judged : AnswersAreJudged
answers_are_judged tells old new s m (outcome.Known i receipt) manner h =
    let j = judged_of old s m (knows i) h.1 in
    inr (λ told. ap (λ (x : Option Judgement). judged_answer old.log new.log m x manner) (j.1 ∙ ap (λ (x : Judgement). Some x) j.2)
    ∙ ap (λ (x : Option (List ℕ)). receipt_answer 200 x i (length (entries_of new.log)) manner) (h.2 told))
answers_are_judged tells old new s m (outcome.Denied rule size moment) manner h =
    let j = judged_of old s m (denies rule) h.1 in
    inr (ap (λ (x : Option Judgement). judged_answer old.log new.log m x manner) (j.1 ∙ ap (λ (x : Judgement). Some x) j.2)
    ∙ ap (λ (at : ℕ). Some (problem_answer (problem.Denied rule at) (length (entries_of new.log)) manner)) (sym h.3))
answers_are_judged tells old new s m (outcome.Admitted i receipt) manner h =
    let j = judged_of old s m (goes h.0) h.1 in
    let found : receipt_of new.log (length (entries_of old.log)) ≡ Some receipt = ap (receipt_of new.log) (sym h.3) ∙ h.4 in
    inr (ap (λ (x : Option Judgement). judged_answer old.log new.log m x manner) (j.1 ∙ ap (λ (x : Judgement). Some x) j.2)
    ∙ ap (λ (x : Option (List ℕ)). receipt_answer 201 x (length (entries_of old.log)) (length (entries_of new.log)) manner) found
    ∙ ap (λ (n : ℕ). Some (registered_answer (outcome.Admitted n receipt) (length (entries_of new.log)) manner)) (sym h.3))
answers_are_judged tells old new s m outcome.DiskFault manner h = inl tt
answers_are_judged tells old new s m (outcome.LogFull entries bytes) manner h = inl tt
answers_are_judged tells old new s m (outcome.KeyExhausted next most) manner h = inl tt
answers_are_judged tells old new s m outcome.OutOfMemory manner h = inl tt
answers_are_judged tells old new s m (outcome.Changed number) manner h = inl tt

-- ---- what is good is taken

-- what was answered to a registration that goes
abbrev TakenOrFails : Outcome → Type 0
TakenOrFails (outcome.Admitted i receipt) = Unit {0}
TakenOrFails outcome.OutOfMemory = Unit {0}
TakenOrFails outcome.DiskFault = Unit {0}
TakenOrFails _ = ⊥

taken_or_fails : (Tells : Type 0) (old new : Standing) (s : Said) (m rule : ℕ) (o : Outcome) → Registers Tells old s m o new → ruling_of old s m ≡ Some (goes rule) → TakenOrFails o
taken_or_fails Tells old new s m rule (outcome.Admitted i receipt) h g = tt
taken_or_fails Tells old new s m rule outcome.OutOfMemory h g = tt
taken_or_fails Tells old new s m rule outcome.DiskFault h g = tt
taken_or_fails Tells old new s m rule (outcome.Known i receipt) h g = let e : Some (knows i) ≡ Some (goes rule) = sym h.1 ∙ g in cc e
taken_or_fails Tells old new s m rule (outcome.Denied deny size moment) h g = let e : Some (denies deny) ≡ Some (goes rule) = sym h.1 ∙ g in cc e
taken_or_fails Tells old new s m rule (outcome.LogFull entries bytes) h g = let e : Some (full entries bytes) ≡ Some (goes rule) = sym h.1 ∙ g in cc e
taken_or_fails Tells old new s m rule (outcome.KeyExhausted next most) h g = let e : Some (spent next most) ≡ Some (goes rule) = sym h.1 ∙ g in cc e
taken_or_fails Tells old new s m rule (outcome.Changed number) h g = let e : Some (knows h.0.0) ≡ Some (goes rule) = sym h.0.1 ∙ g in cc e

-- an outcome of one that goes, on a disk whose count didn't rise
outcome_taken : (o : Outcome) (a : Answer) (m : Manner) (before now : ℕ) → TakenOrFails o → IsFaultOf before now o → (Rose before now → ⊥) → a ≡ registered_answer o a.size m → IsTaken m a
outcome_taken (outcome.Admitted i receipt) a m before now t f holds e = taken i receipt e
outcome_taken outcome.OutOfMemory a m before now t f holds e = lacks_memory e
outcome_taken outcome.DiskFault a m before now t f holds e = absurd (holds f)
outcome_taken (outcome.Known i receipt) a m before now t f holds e = absurd t
outcome_taken (outcome.Denied deny size moment) a m before now t f holds e = absurd t
outcome_taken (outcome.LogFull entries bytes) a m before now t f holds e = absurd t
outcome_taken (outcome.KeyExhausted next most) a m before now t f holds e = absurd t
outcome_taken (outcome.Changed number) a m before now t f holds e = absurd t

step_taken : (tells : Bool) (t : Step) (said : Said) (moment rule : ℕ) (o : Outcome) (a : Answer) (m : Manner) → t.does ≡ asks (register_call said moment) (registered o) → IsStep tells t
    → ruling_of t.found.standing said moment ≡ Some (goes rule) → DiskHolds t → a ≡ registered_answer o a.size m → IsTaken m a
step_taken tells t said moment rule o a m d is go holds e =
    let done : DoneIn (IsTrue tells) t.found.standing (asks (register_call said moment) (registered o)) t.left.standing = subst (λ (x : Doing). DoneIn (IsTrue tells) t.found.standing x t.left.standing) d is.done in
    let faults : FaultsIn (asks (register_call said moment) (registered o)) t.found.faults t.left.faults = subst (λ (x : Doing). FaultsIn x t.found.faults t.left.faults) d is.faults in
    outcome_taken o a m t.found.faults t.left.faults (taken_or_fails (IsTrue tells) t.found.standing t.left.standing said moment rule o done.turns go) faults holds e

steps_taken : (tells : Bool) (steps : List Step) (first : Doing) (said : Said) (moment : ℕ) (o : Outcome) (a : Answer) (m : Manner) (before after : ClockState)
    → AreSteps tells steps → DoesTwo steps first (asks (register_call said moment) (registered o)) → Reads before after moment
    → OfLast DiskHolds steps → OfLast (Goes said before after) steps → a ≡ registered_answer o a.size m → IsTaken m a
steps_taken tells [] first said moment o a m before after are d reads holds go e = absurd d
steps_taken tells (s ∷ []) first said moment o a m before after are d reads holds go e = absurd d
steps_taken tells (s ∷ t ∷ []) first said moment o a m before after are d reads holds go e =
    let g = go moment reads in step_taken tells t said moment g.0 o a m d.1 are.1.0 g.1 holds e
steps_taken tells (s ∷ t ∷ u ∷ steps) first said moment o a m before after are d reads holds go e = absurd d

module _ (one : OneAnswer) where
  body_taken : (tells : Bool) (e : Exchange) (body : List ℕ) (m : Manner) (s : Statement) → AreSteps tells e.steps → AnswersBody body m e → StatementOf body s
      → (Rose e.clock_before.misses e.clock_after.misses → ⊥) → OfLast DiskHolds e.steps → OfLast (Goes (said_of s) e.clock_before e.clock_after) e.steps → IsTaken m e.answer
  body_taken tells e body m s are (refuses_body r) of_body misses holds go =
      let bad : Ok s ≡ Err r.stop = one body (Ok s) (Err r.stop) of_body r.fault in cc bad
  body_taken tells e body m s are (lacks_moment r) of_body misses holds go = absurd (misses r.clock.misses)
  body_taken tells e body m s are (registers r) of_body misses holds go =
      let same : Ok r.statement ≡ Ok s = one body (Ok r.statement) (Ok s) r.of_body of_body in
      let it : s ≡ r.statement = cc same in
      steps_taken tells e.steps _ (said_of r.statement) r.moment r.outcome e.answer m e.clock_before e.clock_after are r.steps r.clock holds
      (subst (λ (x : Statement). OfLast (Goes (said_of x) e.clock_before e.clock_after) e.steps) it go) r.answer
  body_taken tells e body m s are (lacks_memory_to_read r) of_body misses holds go = lacks_memory r.answer
  body_taken tells e body m s are (lacks_memory_to_check r) of_body misses holds go = lacks_memory r.answer

  ask_taken : (tells is_last : Bool) (e : Exchange) (q : Request) (s : Statement) (a : Ask) → a ≡ ask.Register → AreSteps tells e.steps → AnswersAsk a q.body (manner_of is_last q) e → StatementOf q.body s
      → (Rose e.clock_before.misses e.clock_after.misses → ⊥) → OfLast DiskHolds e.steps → OfLast (Goes (said_of s) e.clock_before e.clock_after) e.steps → IsTaken (manner_of is_last q) e.answer
  ask_taken tells is_last e q s (ask.Refuse p) same are h of_body misses holds go = cc same
  ask_taken tells is_last e q s (ask.Read r) same are h of_body misses holds go = cc same
  ask_taken tells is_last e q s ask.Register same are h of_body misses holds go = body_taken tells e q.body (manner_of is_last q) s are h of_body misses holds go

  pub good_is_taken : GoodIsTaken
  good_is_taken tells is_last e q s is asked same of_body misses holds go =
      let answers : Answers is_last e (request q) = subst (Answers is_last e) asked is.answers in
      ask_taken tells is_last e q s (ask_of q) same is.turns answers of_body misses holds go
