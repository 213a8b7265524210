-- What an answer to a registration tells of the log that its turn found.
use Rattle.std.proofs.Common.{◌≡◌, ℕ, ◌==◌, nat_lt, List, [], ◌∷◌, length, Bool, true, false, IsTrue, Option, None, Some, refl, sym, ap, ◌∙◌, subst, arith}
use Rattle.std.specs.Prelude.{option_map, unwrap_or}
use Rattle.std.proofs.lemmas.Bool.{eqb-true}
use Rattle.cbor_core.specs.Rows.{first_row}
use Rattle.hss_keys.specs.Levels.{capacity}
use Rattle.http_wire.specs.declared.request.Request.{Request}
use Rattle.http_wire.specs.declared.answer.Answer.{Answer}
use Rattle.statement.specs.Said.{Said, said_of}
use Rattle.log_replay.specs.declared.parts.Header.{Header}
use Rattle.log_replay.specs.declared.words.Judgement.{Judgement}
use Rattle.log_replay.specs.declared.words.Judgement.TheVariants as judged
use Rattle.log_replay.specs.Records.{entries_of, header_of}
use Rattle.log_replay.specs.Judging.{judge}
use Rattle.log_replay.specs.WellMade.{most_logged_bytes}
use Rattle.registrar.specs.declared.words.Outcome.{Outcome}
use Rattle.registrar.specs.declared.words.Outcome.TheVariants as outcome
use Rattle.registrar.specs.Turns.{Standing, Registers, register_call, registered, Ruling, knows, denies, full, spent, goes, bytes_with, ruling_on, ruling_of}
use Rattle.scitt_answers.specs.declared.problem.Problem.{Problem}
use Rattle.scitt_answers.specs.declared.problem.Problem.TheVariants as problem
use Rattle.scitt_answers.specs.declared.replying.Manner.{Manner}
use Rattle.scitt_answers.specs.declared.asking.Ask.{Ask}
use Rattle.scitt_answers.specs.declared.asking.Ask.TheVariants as ask
use Rattle.scitt_answers.specs.Problems.{kind_of}
use Rattle.scitt_answers.specs.Statements.{parse_problem}
use Rattle.scitt_answers.specs.Asking.{ask_of, manner_of}
use Rattle.scitt_answers.specs.Answers.{problem_answer, registered_answer}
use Rattle.scitt_answers.specs.Marks.{Step, Doing, asks, DoneIn, IsStep, AreSteps, entries_at}
use Rattle.scitt_answers.specs.Exchanges.{request, Exchange, DoesTwo, AnswersAsk, AnswersBody, refuses_body, lacks_moment, registers, lacks_memory_to_read, lacks_memory_to_check, Answers}
use Rattle.scitt_answers.specs.Judged.{OfLast}
use Rattle.scrapi.specs.Laws.{AdmittedIsNew, ExhaustedIsFound}

-- no problem has the status 201
not_created : (p : Problem) → (kind_of p).status ≡ 201 → ⊥
not_created problem.BadHead e = omega (arith, e)
not_created (problem.BadStatement number place) e = omega (arith, e)
not_created (problem.Denied rule moment) e = omega (arith, e)
not_created problem.NoRoute e = omega (arith, e)
not_created (problem.NoEntry index) e = omega (arith, e)
not_created (problem.NoSuchSize old) e = omega (arith, e)
not_created (problem.BadMethod allowed) e = omega (arith, e)
not_created problem.NoLength e = omega (arith, e)
not_created problem.TooLarge e = omega (arith, e)
not_created problem.BadType e = omega (arith, e)
not_created problem.HeadTooLong e = omega (arith, e)
not_created (problem.LogFull entries bytes) e = omega (arith, e)
not_created (problem.KeyExhausted next most) e = omega (arith, e)
not_created problem.DiskFault e = omega (arith, e)
not_created problem.ClockFault e = omega (arith, e)
not_created problem.OutOfMemory e = omega (arith, e)
not_created (problem.DiskChanged number) e = omega (arith, e)

problem_created : (p : Problem) (size : ℕ) (m : Manner) (a : Answer) → a ≡ problem_answer p size m → a.status ≡ 201 → ⊥
problem_created p size m a e s = not_created p (ap (λ (x : Answer). x.status) (sym e) ∙ s)

-- an outcome with this status names the entry behind those found
outcome_created : (Tells : Type 0) (old new : Standing) (said : Said) (moment : ℕ) (o : Outcome) (a : Answer) (m : Manner)
    → Registers Tells old said moment o new → a ≡ registered_answer o a.size m → a.status ≡ 201 → a.location ≡ Some (length (entries_of old.log))
outcome_created Tells old new said moment (outcome.Admitted i receipt) a m r e s =
    ap (λ (x : Answer). x.location) e ∙ ap (λ (n : ℕ). Some n) r.3
outcome_created Tells old new said moment (outcome.Known i receipt) a m r e s =
    let bad : 200 ≡ 201 = ap (λ (x : Answer). x.status) (sym e) ∙ s in absurd (omega (arith, bad))
outcome_created Tells old new said moment (outcome.Denied rule n at) a m r e s = absurd (problem_created (problem.Denied rule at) a.size m a e s)
outcome_created Tells old new said moment (outcome.LogFull entries bytes) a m r e s = absurd (problem_created (problem.LogFull entries bytes) a.size m a e s)
outcome_created Tells old new said moment (outcome.KeyExhausted next most) a m r e s = absurd (problem_created (problem.KeyExhausted next most) a.size m a e s)
outcome_created Tells old new said moment outcome.OutOfMemory a m r e s = absurd (problem_created problem.OutOfMemory a.size m a e s)
outcome_created Tells old new said moment outcome.DiskFault a m r e s = absurd (problem_created problem.DiskFault a.size m a e s)
outcome_created Tells old new said moment (outcome.Changed number) a m r e s = absurd (problem_created (problem.DiskChanged number) a.size m a e s)

step_created : (tells : Bool) (t : Step) (said : Said) (moment : ℕ) (o : Outcome) (a : Answer) (m : Manner) → t.does ≡ asks (register_call said moment) (registered o) → IsStep tells t
    → a ≡ registered_answer o a.size m → a.status ≡ 201 → a.location ≡ Some (entries_at t.found)
step_created tells t said moment o a m d is e s =
    let done : DoneIn (IsTrue tells) t.found.standing (asks (register_call said moment) (registered o)) t.left.standing = subst (λ (x : Doing). DoneIn (IsTrue tells) t.found.standing x t.left.standing) d is.done in
    outcome_created (IsTrue tells) t.found.standing t.left.standing said moment o a m done.turns e s

steps_created : (tells : Bool) (steps : List Step) (first : Doing) (said : Said) (moment : ℕ) (o : Outcome) (a : Answer) (m : Manner)
    → AreSteps tells steps → DoesTwo steps first (asks (register_call said moment) (registered o)) → a ≡ registered_answer o a.size m → a.status ≡ 201
    → OfLast (λ s. a.location ≡ Some (entries_at s.found)) steps
steps_created tells [] first said moment o a m are d e s = absurd d
steps_created tells (x ∷ []) first said moment o a m are d e s = absurd d
steps_created tells (x ∷ t ∷ []) first said moment o a m are d e s = step_created tells t said moment o a m d.1 are.1.0 e s
steps_created tells (x ∷ t ∷ u ∷ steps) first said moment o a m are d e s = absurd d

body_created : (tells : Bool) (e : Exchange) (body : List ℕ) (m : Manner) → AreSteps tells e.steps → AnswersBody body m e → e.answer.status ≡ 201
    → OfLast (λ s. e.answer.location ≡ Some (entries_at s.found)) e.steps
body_created tells e body m are (refuses_body r) s = absurd (problem_created (parse_problem r.stop) e.answer.size m e.answer r.refuses.answer s)
body_created tells e body m are (lacks_moment r) s = absurd (problem_created problem.ClockFault e.answer.size m e.answer r.answer s)
body_created tells e body m are (registers r) s = steps_created tells e.steps _ (said_of r.statement) r.moment r.outcome e.answer m are r.steps r.answer s
body_created tells e body m are (lacks_memory_to_read r) s = absurd (problem_created problem.OutOfMemory e.answer.size m e.answer r.answer s)
body_created tells e body m are (lacks_memory_to_check r) s = absurd (problem_created problem.OutOfMemory e.answer.size m e.answer r.answer s)

ask_created : (tells is_last : Bool) (e : Exchange) (q : Request) (a : Ask) → a ≡ ask.Register → AreSteps tells e.steps → AnswersAsk a q.body (manner_of is_last q) e → e.answer.status ≡ 201
    → OfLast (λ s. e.answer.location ≡ Some (entries_at s.found)) e.steps
ask_created tells is_last e q (ask.Refuse p) same are h s = cc same
ask_created tells is_last e q (ask.Read r) same are h s = cc same
ask_created tells is_last e q ask.Register same are h s = body_created tells e q.body (manner_of is_last q) are h s

pub admitted_is_new : AdmittedIsNew
admitted_is_new tells is_last e q is asked same s =
    let answers : Answers is_last e (request q) = subst (Answers is_last e) asked is.answers in
    ask_created tells is_last e q (ask_of q) same is.turns answers s

-- ---- no index is left

-- what a ruling says of the next index
abbrev SpentAt : ℕ → Ruling → Type 0
SpentAt at (spent next most) = (next ≡ at) × (next ≡ most)
SpentAt at _ = Unit {0}

rows_spent : (a b c : Bool) (e n f k at most rule : ℕ) → (c ≡ true → at ≡ most)
    → SpentAt at (unwrap_or (first_row ((a, full e n) ∷ (b, full f k) ∷ (c, spent at most) ∷ [])) (goes rule))
rows_spent true b c e n f k at most rule same = tt
rows_spent false true c e n f k at most rule same = tt
rows_spent false false true e n f k at most rule same = (refl, same refl)
rows_spent false false false e n f k at most rule same = tt

ruled_spent : (h : Header) (S : Standing) (s : Said) (j : Judgement) → SpentAt S.next (ruling_on h S s j)
ruled_spent h S s (judged.Known i) = tt
ruled_spent h S s (judged.Deny rule) = tt
ruled_spent h S s (judged.Admit rule) =
    let n : ℕ = length (entries_of S.log) in
    let bytes : ℕ = bytes_with S s in
    rows_spent (n == h.max_entries) (nat_lt most_logged_bytes bytes) (S.next == capacity h.levels) n bytes n bytes S.next (capacity h.levels) rule (eqb-true S.next (capacity h.levels))

found_spent : (o : Option Header) (S : Standing) (s : Said) (J : Header → Judgement) (r : Ruling) → option_map (λ h. ruling_on h S s (J h)) o ≡ Some r → SpentAt S.next r
found_spent None S s J r e = cc e
found_spent (Some h) S s J r e =
    let same : ruling_on h S s (J h) ≡ r = cc e in subst (λ (x : Ruling). SpentAt S.next x) same (ruled_spent h S s (J h))

pub exhausted_is_found : ExhaustedIsFound
exhausted_is_found tells old new s m next most h =
    found_spent (header_of old.log) old s (λ (x : Header). judge x (entries_of old.log) s m) (spent next most) h.1
