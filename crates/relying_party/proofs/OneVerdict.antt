-- Bytes have one verdict: the statement that they are, or the rule that fails, determines it.
use Rattle.std.proofs.Common.{◌≡◌, ℕ, List, [], Result, Ok, Err, refl, sym, ap, ◌∙◌, inl, inr}
use Rattle.statement.specs.declared.statement_type.Statement.{Statement}
use Rattle.statement.specs.declared.stops.ParseStop.{ParseStop}
use Rattle.statement.specs.OneAnswer.{AnswerOf, SomeAnswer as SomeStatement, OneAnswer as OneStatement}
use Rattle.relying_party.specs.declared.trust.Trust.{Trust}
use Rattle.relying_party.specs.declared.answers.StatementCheck.TheVariants.{Parse}
use Rattle.relying_party.specs.declared.answers.Verdict.{Verdict}
use Rattle.relying_party.specs.Accepts.{verdict_with, verdict_on, Accepts}
use Rattle.relying_party.specs.OneAnswer.{SomeVerdict, OneVerdict}

abbrev Answer : Type 0
Answer = Result Statement ParseStop

ok_is : (s t : Statement) → ◌≡◌ {A = Answer} (Ok s) (Ok t) → s ≡ t
ok_is s t e = cc

err_is : (s t : ParseStop) → ◌≡◌ {A = Answer} (Err s) (Err t) → s ≡ t
err_is s t e = cc

ok_err : (s : Statement) (stop : ParseStop) → ◌≡◌ {A = Answer} (Ok s) (Err stop) → ⊥
ok_err s stop e = cc

pub same_statement : OneStatement → (bytes : List ℕ) (s t : Statement) → AnswerOf bytes (Ok s) → AnswerOf bytes (Ok t) → s ≡ t
same_statement one bytes s t p q = ok_is s t (one bytes (Ok s) (Ok t) p q)

pub no_both : OneStatement → (bytes : List ℕ) (s : Statement) (stop : ParseStop) → AnswerOf bytes (Ok s) → AnswerOf bytes (Err stop) → ⊥
no_both one bytes s stop p q = ok_err s stop (one bytes (Ok s) (Err stop) p q)

pub one_verdict : OneStatement → OneVerdict
one_verdict one trust bytes a b (inl (stop, at, is)) (inl (other, at2, is2)) =
    is ∙ ap (λ (x : ParseStop). verdict_with (Parse x) []) (err_is stop other (one bytes (Err stop) (Err other) at at2)) ∙ sym is2
one_verdict one trust bytes a b (inl (stop, at, is)) (inr (s, of, is2)) = absurd (no_both one bytes s stop of at)
one_verdict one trust bytes a b (inr (s, of, is)) (inl (stop, at, is2)) = absurd (no_both one bytes s stop of at)
one_verdict one trust bytes a b (inr (s, of, is)) (inr (t, of2, is2)) = is ∙ ap (λ (x : Statement). verdict_on trust x) (same_statement one bytes s t of of2) ∙ sym is2

abbrev HasVerdict : Trust → List ℕ → Type 0
HasVerdict trust bytes = (v : Verdict) × Accepts trust bytes v

by_answer : (trust : Trust) (bytes : List ℕ) (answer : Answer) → AnswerOf bytes answer → HasVerdict trust bytes
by_answer trust bytes (Ok s) of = (verdict_on trust s, inr (s, of, refl))
by_answer trust bytes (Err stop) at = (verdict_with (Parse stop) [], inl (stop, at, refl))

pub some_verdict : SomeStatement → SomeVerdict
some_verdict some trust bytes fits = let found = some bytes fits in by_answer trust bytes found.0 found.1
