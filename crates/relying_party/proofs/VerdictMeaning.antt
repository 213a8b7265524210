-- What a verdict's results mean, each for its receipt.
use Rattle.std.proofs.Common.{◌≡◌, ℕ, Bool, true, false, List, [], map, Some, Result, Ok, Err, refl, sym, ap, ◌∙◌, subst, inl, inr}
use Rattle.std.specs.Prelude.{slice_get, option_map, IfOk, if◌then◌else◌}
use Rattle.std.proofs.lemmas.Option.{slice_get-map}
use Rattle.statement.specs.declared.statement_type.Statement.{Statement}
use Rattle.statement.specs.OneAnswer.{OneAnswer as OneStatement}
use Rattle.relying_party.specs.declared.trust.Trust.{Trust}
use Rattle.relying_party.specs.declared.answers.ReceiptResult.{ReceiptResult}
use Rattle.relying_party.specs.declared.answers.Verdict.{Verdict}
use Rattle.relying_party.specs.Accepts.{receipt_result, statement_check, is_fine, verdict_on, Accepts}
use Rattle.relying_party.specs.Meaning.{Means, MeansEntries, ReceiptsMeanEntries}
use Rattle.relying_party.proofs.OneVerdict.{same_statement, no_both}

some_is : (a b : ReceiptResult) → Some a ≡ Some b → a ≡ b
some_is a b e = cc

-- the result at a place is that of the receipt there
at_place : (f : List ℕ → ReceiptResult) (fine : Bool) (receipts : List (List ℕ)) (k : ℕ) (receipt : List ℕ) (result : ReceiptResult)
    → slice_get receipts k ≡ Some receipt → slice_get (if fine then map f receipts else []) k ≡ Some result → f receipt ≡ result
at_place f true receipts k receipt result has gets =
    some_is (f receipt) result (sym (ap (option_map f) has) ∙ sym (slice_get-map f receipts k) ∙ gets)
at_place f false receipts k receipt result has gets = cc

results_are : (trust : Trust) (s : Statement) → (verdict_on trust s).receipts ≡ (if is_fine (statement_check trust s) then map (receipt_result trust s.logged) s.receipts else [])
unfolding verdict_on
results_are trust s = refl

pub means_by : OneStatement → ReceiptsMeanEntries → (trust : Trust) (bytes : List ℕ) (v : Verdict) → Accepts trust bytes v → MeansEntries bytes v
means_by one law trust bytes v (inl (stop, at, is)) s k receipt result of has gets = absurd (no_both one bytes s stop of at)
means_by one law trust bytes v (inr (t, of2, is)) s k receipt result of has gets =
    let same = same_statement one bytes t s of2 of in
    let receipts : slice_get t.receipts k ≡ Some receipt = subst (λ (x : Statement). slice_get x.receipts k ≡ Some receipt) (sym same) has in
    let at : slice_get (verdict_on trust t).receipts k ≡ Some result = subst (λ (x : Verdict). slice_get x.receipts k ≡ Some result) is gets in
    let told : slice_get (if is_fine (statement_check trust t) then map (receipt_result trust t.logged) t.receipts else []) k ≡ Some result =
    subst (λ (rs : List ReceiptResult). slice_get rs k ≡ Some result) (results_are trust t) at in
    let is_result = at_place (receipt_result trust t.logged) (is_fine (statement_check trust t)) t.receipts k receipt result receipts told in
    subst (λ (x : Statement). Means x.logged receipt result) same (subst (λ (x : ReceiptResult). Means t.logged receipt x) is_result (law trust t.logged receipt))

pub if_ok : {A E : Type 0} (r : Result A E) (P Q : A → Type 0) → ((a : A) → P a → Q a) → IfOk r P → IfOk r Q
if_ok (Ok a) P Q f h = f a h
if_ok (Err e) P Q f h = tt
