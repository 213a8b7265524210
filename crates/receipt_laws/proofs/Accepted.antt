-- A statement with a log's receipt of its entry is accepted.
use Rattle.std.proofs.Common.{◌≡◌, ℕ, ◌+◌, List, [], ◌∷◌, ◌++◌, length, take, map, Some, Ok, refl, sym, ap, ◌∙◌, subst, inl, inr, arith, length-append}
use Rattle.std.specs.Prelude.{slice_get}
use Rattle.std.proofs.lemmas.Option.{slice_get_within}
use Rattle.std.proofs.lemmas.List.{map-append, length-map, length-take}
use Rattle.cose_sign1.specs.Attached.{Attaches}
use Rattle.merkle_tree.specs.Mth.{mth}
use Rattle.statement.specs.declared.statement_type.Statement.{Statement}
use Rattle.statement.specs.Attached.{IsSameWith, AttachedIsSame}
use Rattle.statement.specs.Parsed.{StatementOf}
use Rattle.statement.specs.OneAnswer.{OneAnswer as OneStatement}
use Rattle.log_replay.specs.Records.{Entry, leaves_of, entries_of}
use Rattle.log_replay.specs.Growth.{EntriesAreLeaves}
use Rattle.relying_party.specs.declared.trust.Trust.{Trust}
use Rattle.relying_party.specs.declared.answers.ReceiptResult.TheVariants.{Accepted}
use Rattle.relying_party.specs.declared.answers.StatementCheck.{StatementCheck}
use Rattle.relying_party.specs.declared.answers.StatementCheck.TheVariants.{Parse, Fine}
use Rattle.relying_party.specs.declared.answers.Verdict.{Verdict}
use Rattle.relying_party.specs.Accepts.{receipt_result, statement_check, results_after, verdict_on, Accepts}
use Rattle.relying_party.specs.Converse.{ShowsEntry, ShownIsAccepted, AttachedIsAccepted}
use Rattle.relying_party.proofs.OneVerdict.{same_statement}
use Rattle.receipt_laws.specs.Own.{EntriesHaveReceipts, OwnReceiptsAreAccepted}
use Rattle.receipt_laws.proofs.Lists.{some_is, at_seam}

check_is : (trust : Trust) (t : Statement) → (verdict_on trust t).statement ≡ statement_check trust t
unfolding verdict_on
check_is trust t = refl

results_are : (trust : Trust) (t : Statement) → (verdict_on trust t).receipts ≡ results_after (statement_check trust t) (map (receipt_result trust t.logged) t.receipts)
unfolding verdict_on
results_are trust t = refl

-- the results of a fine statement with one receipt more than another
with_one : (trust : Trust) (receipt : List ℕ) (s t : Statement) (v : Verdict) → IsSameWith receipt s t → v ≡ verdict_on trust t → v.statement ≡ Fine
    → v.receipts ≡ map (receipt_result trust s.logged) s.receipts ++ receipt_result trust s.logged receipt ∷ []
with_one trust receipt s t v same is fine =
    let check : statement_check trust t ≡ Fine = sym (check_is trust t) ∙ sym (ap (λ (x : Verdict). x.statement) is) ∙ fine in
    let f = receipt_result trust s.logged in
    ap (λ (x : Verdict). x.receipts) is ∙ results_are trust t
    ∙ ap (λ (c : StatementCheck). results_after c (map (receipt_result trust t.logged) t.receipts)) check
    ∙ (λ i. map (receipt_result trust (same.logged i)) (same.receipts i))
    ∙ map-append f s.receipts (receipt ∷ [])

by_accepts : OneStatement → AttachedIsSame → (trust : Trust) (bytes receipt attached : List ℕ) (s : Statement) (v : Verdict) → StatementOf bytes s → Attaches bytes receipt (Ok attached) → v.statement ≡ Fine → Accepts trust attached v
    → v.receipts ≡ map (receipt_result trust s.logged) s.receipts ++ receipt_result trust s.logged receipt ∷ []
by_accepts one attached_same trust bytes receipt attached s v of attaches fine (inl (stop, fault, is)) =
    let bad : Parse stop ≡ Fine = sym (ap (λ (x : Verdict). x.statement) is) ∙ fine in
    cc
by_accepts one attached_same trust bytes receipt attached s v of attaches fine (inr (t, of2, is)) =
    let found = attached_same bytes receipt attached s of attaches in
    let same : IsSameWith receipt s t = subst (λ (x : Statement). IsSameWith receipt s x) (same_statement one attached found.0 t found.1 of2) found.2 in
    with_one trust receipt s t v same is fine

pub own_accepted : OneStatement → AttachedIsSame → ShownIsAccepted → AttachedIsAccepted → EntriesAreLeaves → EntriesHaveReceipts → OwnReceiptsAreAccepted
own_accepted one attached_same shown_is attached_is both have R h i e receipt bytes attached s trust v fits w headed there answered of logged knows believed attaches accepts =
    let below = slice_get_within (entries_of R) i e there in
    let found = have R h i fits w headed below in
    let is = found.3 in
    let r = found.2 in
    let entries = take (i + 1) (leaves_of R) in
    let same_entry : found.0 ≡ e = some_is found.0 e (sym is.entry ∙ there) in
    let same_receipt : found.1 ≡ receipt = some_is found.1 receipt (sym is.answered ∙ answered) in
    let reads = ap Rattle.receipts.specs.Form.receipt_of (sym same_receipt) ∙ is.reads in
    let shows_entry = subst (λ (x : Entry). ShowsEntry trust r entries i x.at x.rule x.statement.logged) same_entry (is.shows trust knows) in
    let shows : ShowsEntry trust r entries i e.at e.rule s.logged = subst (λ l. ShowsEntry trust r entries i e.at e.rule l) (sym logged) shows_entry in
    let whole = attached_is trust bytes receipt attached s r entries i e.at e.rule v of believed reads shows attaches accepts in
    let result : receipt_result trust s.logged receipt ≡ Accepted (length entries) (mth entries) i e.at e.rule = shown_is trust receipt s.logged r entries i e.at e.rule reads shows in
    let long : length entries ≡ i + 1 = omega (arith, below, both R w, length-take (i + 1) (leaves_of R)) in
    let f = receipt_result trust s.logged in
    let results = by_accepts one attached_same trust bytes receipt attached s v of attaches whole.0 accepts in
    let place : length s.receipts ≡ length (map f s.receipts) = sym (length-map s.receipts f) in
    record {
      fine = whole.0;
      accepted = whole.1;
      count = ap length results ∙ length-append (map f s.receipts) (f receipt ∷ []) ∙ ap (λ k. k + 1) (sym place);
      last = (λ t. slice_get (results t) (place t)) ∙ at_seam (map f s.receipts) (f receipt) [] ∙ ap Some (result ∙ ap (λ k. Accepted k (mth entries) i e.at e.rule) long);
    }
