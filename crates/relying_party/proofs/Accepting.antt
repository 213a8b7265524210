-- What shows an entry, or growth, is accepted.
use Rattle.std.proofs.Common.{◌≡◌, ℕ, ◌<◌, ◌≤◌, Bool, true, false, not, ◌&&◌, ◌||◌, List, [], ◌∷◌, ◌++◌, length, take, map, Option, Some, None, refl, sym, ap, ◌∙◌, subst, inl, inr, lt-ltb, le-leb}
use Rattle.std.specs.Prelude.{◌⊎◌, ◌==◌, nat_lt, nat_le, is_none, find, option_map, option_and_then, unwrap_or, slice_get}
use Rattle.std.specs.List.{list_any}
use Rattle.std.proofs.lemmas.Bool.{eq-eqb, and_from}
use Rattle.std.proofs.lemmas.List.{map-append}
use Rattle.std.proofs.lemmas.List.Folds.{list_any-append}
use Rattle.std.proofs.lemmas.Option.{slice_get_within}
use Rattle.std.proofs.lemmas.Slice.Eq.{bytes_eq-Decides}
use Rattle.cbor_core.specs.Rows.{first_row}
use Rattle.cose_sign1.specs.OneTbs.{tbs_of}
use Rattle.hss_keys.specs.Functions.{hss_verifies}
use Rattle.merkle_tree.specs.Mth.{leaf_hash, mth}
use Rattle.merkle_tree.specs.Paths.{path_of, root_from}
use Rattle.merkle_tree.specs.Consistency.{proof_of, roots_from}
use Rattle.statement.specs.declared.statement_type.Statement.{Statement}
use Rattle.statement.specs.Attached.{IsSameWith, AttachedIsSame}
use Rattle.statement.specs.OneAnswer.{OneAnswer as OneStatement}
use Rattle.statement.specs.Parsed.{StatementOf}
use Rattle.statement.specs.Said.{Said, said_of, logged_statement, LoggedIsStatement}
use Rattle.receipts.specs.declared.receipt.Receipt.{Receipt}
use Rattle.receipts.specs.declared.receipt.Proof.{Proof}
use Rattle.receipts.specs.Form.{receipt_of}
use Rattle.relying_party.specs.declared.trust.Issuer.{Issuer}
use Rattle.relying_party.specs.declared.trust.Trust.{Trust}
use Rattle.relying_party.specs.declared.answers.ReceiptResult.{ReceiptResult}
use Rattle.relying_party.specs.declared.answers.ReceiptResult.TheVariants.{Accepted, Refused}
use Rattle.relying_party.specs.declared.answers.ConsistencyResult.TheVariants as growth
use Rattle.relying_party.specs.declared.answers.StatementCheck.{StatementCheck}
use Rattle.relying_party.specs.declared.answers.StatementCheck.TheVariants.{NoReceipts, IssuerUnknown, IssuerSignature, Fine}
use Rattle.relying_party.specs.declared.answers.Verdict.{Verdict}
use Rattle.relying_party.specs.Entries.{entry_bytes}
use Rattle.relying_party.specs.Accepts.{service_key, is_signed, is_issuer, included_by, result_by, receipt_result, is_accepted, issuer_key, is_hss, signs_statement, is_empty, statement_check, verdict_with, results_after, verdict_on}
use Rattle.relying_party.specs.Growth.{grown_by, has_old_root, growth_by}
use Rattle.relying_party.specs.Converse.{ShowsEntry, ShownIsAccepted, IsBelieved, AttachedIsAccepted, GrownIsConsistent}
use Rattle.relying_party.proofs.OneVerdict.{same_statement, no_both}

-- the tree's laws: a path and a proof lead to the root
abbrev pub Leads : Type 0
Leads = (m : ℕ) (entry : List ℕ) (entries : List (List ℕ)) → slice_get entries m ≡ Some entry → root_from m (length entries) (leaf_hash entry) (path_of m entries) ≡ Some (mth entries)

abbrev pub Joins : Type 0
Joins = (m : ℕ) (entries : List (List ℕ)) → 0 < m → m ≤ length entries → roots_from m (length entries) (mth (take m entries)) (proof_of m entries) ≡ Some (mth (take m entries), mth entries)

not_true : (b : Bool) → b ≡ true → not b ≡ false
not_true b e = ap not e

-- a table of which no row applies
inclusion_rows : (key : Option (List ℕ)) (b4 b5 : Bool) (root : Option (List ℕ)) (b7 : Bool) (k root_is : List ℕ) (size index at rule : ℕ) → key ≡ Some k → b4 ≡ false → b5 ≡ false → root ≡ Some root_is → b7 ≡ false
    → unwrap_or (option_map Refused (first_row ((false, 1) ∷ (false, 2) ∷ (is_none key, 3) ∷ (b4, 4) ∷ (b5, 5) ∷ (is_none root, 6) ∷ (b7, 7) ∷ []))) (Accepted size (unwrap_or root []) index at rule) ≡ Accepted size root_is index at rule
inclusion_rows None b4 b5 root b7 k root_is size index at rule e4 a b c d = cc
inclusion_rows (Some key) true b5 root b7 k root_is size index at rule e a b c d = cc
inclusion_rows (Some key) false true root b7 k root_is size index at rule e a b c d = cc
inclusion_rows (Some key) false false None b7 k root_is size index at rule e a b c d = cc
inclusion_rows (Some key) false false (Some root) true k root_is size index at rule e a b c d = cc
inclusion_rows (Some key) false false (Some root) false k root_is size index at rule e a b c d =
    ap (λ (x : List ℕ). Accepted size x index at rule) (let same : root ≡ root_is = cc in same)

pub shown_accepted : Leads → ShownIsAccepted
shown_accepted leads trust bytes logged r entries index at rule read shows =
    let leaf = leaf_hash (entry_bytes at rule logged) in
    let root = root_from index (length entries) leaf (path_of index entries) in
    let root_is : root ≡ Some (mth entries) = leads index (entry_bytes at rule logged) entries shows.there in
    let same : (length entries == r.size) ≡ true = eq-eqb (length entries) r.size (sym shows.size) in
    let below : nat_lt index (length entries) ≡ true = lt-ltb index (length entries) (slice_get_within entries index (entry_bytes at rule logged) shows.there) in
    let signed : is_signed (service_key trust r) (Some r) root ≡ true = (λ i. is_signed (shows.trusted i) (Some r) (root_is i)) ∙ shows.signed in
    ap (λ (o : Option Receipt). result_by trust logged o (option_and_then (λ (r : Receipt). included_by r.proof) o)) read
    ∙ ap (λ (p : Proof). result_by trust logged (Some r) (included_by p)) shows.proof
    ∙ inclusion_rows (service_key trust r) (not (length entries == r.size)) (not (nat_lt index (length entries))) root (not (is_signed (service_key trust r) (Some r) root))
    shows.key (mth entries) (length entries) index at rule shows.trusted (not_true _ same) (not_true _ below) root_is (not_true _ signed)

-- ---- growth

growing_rows : (key : Option (List ℕ)) (b4 b5 : Bool) (roots : Option (List ℕ × List ℕ)) (b6 b7 : Bool) (k : List ℕ) (both : List ℕ × List ℕ) (size : ℕ) → key ≡ Some k → b4 ≡ false → b5 ≡ false → roots ≡ Some both → b6 ≡ false → b7 ≡ false
    → unwrap_or (option_map growth.Refused (first_row ((false, 1) ∷ (false, 2) ∷ (is_none key, 3) ∷ (b4, 4) ∷ (b5, 5) ∷ (is_none roots || b6, 6) ∷ (b7, 7) ∷ []))) (growth.Consistent size (unwrap_or (option_map (λ (x : List ℕ × List ℕ). x.1) roots) [])) ≡ growth.Consistent size both.1
growing_rows None b4 b5 roots b6 b7 k both size e a b c d f = cc
growing_rows (Some key) true b5 roots b6 b7 k both size e a b c d f = cc
growing_rows (Some key) false true roots b6 b7 k both size e a b c d f = cc
growing_rows (Some key) false false None b6 b7 k both size e a b c d f = cc
growing_rows (Some key) false false (Some roots) true b7 k both size e a b c d f = cc
growing_rows (Some key) false false (Some roots) false true k both size e a b c d f = cc
growing_rows (Some key) false false (Some roots) false false k both size e a b c d f =
    ap (λ (x : List ℕ × List ℕ). growth.Consistent size x.1) (let same : roots ≡ both = cc in same)

pub grown_consistent : Joins → GrownIsConsistent
grown_consistent joins trust bytes r entries m read shows =
    let old_root = mth (take m entries) in
    let roots = roots_from m (length entries) old_root (proof_of m entries) in
    let both : List ℕ × List ℕ = (old_root, mth entries) in
    let roots_are : roots ≡ Some both = joins m entries shows.some shows.within in
    let same : (length entries == r.size) ≡ true = eq-eqb (length entries) r.size (sym shows.size) in
    let old : (m == m && (nat_lt 0 m && nat_le m (length entries))) ≡ true =
    and_from (m == m) (nat_lt 0 m && nat_le m (length entries)) (eq-eqb m m refl) (and_from (nat_lt 0 m) (nat_le m (length entries)) (lt-ltb 0 m shows.some) (le-leb m (length entries) shows.within)) in
    let front : has_old_root old_root roots ≡ true = ap (λ (o : Option (List ℕ × List ℕ)). has_old_root old_root o) roots_are ∙ (bytes_eq-Decides old_root old_root).1 refl in
    let root = option_map (λ (x : List ℕ × List ℕ). x.1) roots in
    let signed : is_signed (service_key trust r) (Some r) root ≡ true = (λ i. is_signed (shows.trusted i) (Some r) (option_map (λ (x : List ℕ × List ℕ). x.1) (roots_are i))) ∙ shows.signed in
    ap (λ (o : Option Receipt). growth_by trust m old_root o (option_and_then (λ (r : Receipt). grown_by r.proof) o)) read
    ∙ ap (λ (p : Proof). growth_by trust m old_root (Some r) (grown_by p)) shows.proof
    ∙ growing_rows (service_key trust r) (not (length entries == r.size)) (not (m == m && (nat_lt 0 m && nat_le m (length entries)))) roots (not (has_old_root old_root roots)) (not (is_signed (service_key trust r) (Some r) root))
    shows.key both (length entries) shows.trusted (not_true _ same) (not_true _ old) roots_are (not_true _ front) (not_true _ signed)

-- ---- the whole

-- the test of a statement's own signature, by what it says
signs_with : Option (List ℕ) → Said → Bool
signs_with None x = false
signs_with (Some key) x = is_hss x.names.alg && hss_verifies key x.signature (tbs_of x.protected x.payload)

signs_by : Trust → Said → Bool
signs_by trust x = signs_with (option_map (λ (i : Issuer). i.key) (find (is_issuer x.names.issuer x.names.kid) trust.issuers)) x

by_key : (key : Option (List ℕ)) (s : Statement) → signs_statement key s ≡ signs_with key (said_of s)
unfolding signs_with
by_key None s = refl
by_key (Some key) s = refl

by_said : (trust : Trust) (s : Statement) → signs_statement (issuer_key trust s) s ≡ signs_by trust (said_of s)
unfolding signs_by
by_said trust s = by_key (issuer_key trust s) s

said_is : (x y : Said) → Some x ≡ Some y → x ≡ y
said_is x y e = cc

believed_too : LoggedIsStatement → (trust : Trust) (bytes others : List ℕ) (s t : Statement) → StatementOf bytes s → StatementOf others t → t.logged ≡ s.logged → IsBelieved trust s → IsBelieved trust t
believed_too law trust bytes others s t p q same (inl none) = inl none
believed_too law trust bytes others s t p q same (inr signs) =
    let x : said_of t ≡ said_of s = said_is (said_of t) (said_of s) (sym (law others t q) ∙ ap logged_statement same ∙ law bytes s p) in
    inr (by_said trust t ∙ ap (signs_by trust) x ∙ sym (by_said trust s) ∙ signs)

fine_rows : (empty asked none signs : Bool) → empty ≡ false → (asked ≡ false) ⊎ ((none ≡ false) × (signs ≡ true))
    → unwrap_or (first_row ((empty, NoReceipts) ∷ (asked && none, IssuerUnknown) ∷ (asked && not signs, IssuerSignature) ∷ [])) Fine ≡ Fine
fine_rows true asked none signs e b = cc
fine_rows false false none signs e b = refl
fine_rows false true true signs e (inl b) = cc
fine_rows false true true signs e (inr b) = let bad = b.0 in cc
fine_rows false true false false e (inl b) = cc
fine_rows false true false false e (inr b) = let bad = b.1 in cc
fine_rows false true false true e b = refl

has_key : (key : Option (List ℕ)) (s : Statement) → signs_statement key s ≡ true → is_none key ≡ false
has_key None s e = cc
has_key (Some key) s e = refl

some_receipts : (xs : List (List ℕ)) (x : List ℕ) → is_empty (xs ++ x ∷ []) ≡ false
some_receipts [] x = refl
some_receipts (y ∷ ys) x = refl

asked_or_signs : (trust : Trust) (s : Statement) → IsBelieved trust s → (not (is_empty trust.issuers) ≡ false) ⊎ ((is_none (issuer_key trust s) ≡ false) × (signs_statement (issuer_key trust s) s ≡ true))
asked_or_signs trust s (inl none) = inl (ap (λ (xs : List Issuer). not (is_empty xs)) none)
asked_or_signs trust s (inr signs) = inr (has_key (issuer_key trust s) s signs, signs)

is_fine_with : (trust : Trust) (t : Statement) (before : List (List ℕ)) (receipt : List ℕ) → IsBelieved trust t → t.receipts ≡ before ++ receipt ∷ [] → statement_check trust t ≡ Fine
unfolding statement_check
is_fine_with trust t before receipt believed has =
    fine_rows (is_empty t.receipts) (not (is_empty trust.issuers)) (is_none (issuer_key trust t)) (signs_statement (issuer_key trust t) t) (ap (λ (xs : List (List ℕ)). is_empty xs) has ∙ some_receipts before receipt) (asked_or_signs trust t believed)

or_true : (a b : Bool) → b ≡ true → (a || b) ≡ true
or_true true b e = refl
or_true false b e = e

one_accepted : (f : List ℕ → ReceiptResult) (before : List (List ℕ)) (receipt : List ℕ) → is_accepted (f receipt) ≡ true → list_any is_accepted (map f (before ++ receipt ∷ [])) ≡ true
one_accepted f before receipt e =
    ap (list_any is_accepted) (map-append f before (receipt ∷ [])) ∙ list_any-append is_accepted (map f before) (f receipt ∷ [])
    ∙ or_true (list_any is_accepted (map f before)) (is_accepted (f receipt) || false) (ap (λ (b : Bool). b || false) e)

verdict_is : (trust : Trust) (t : Statement) → statement_check trust t ≡ Fine → verdict_on trust t ≡ verdict_with Fine (map (receipt_result trust t.logged) t.receipts)
unfolding verdict_on
verdict_is trust t fine =
    ap (λ (c : StatementCheck). verdict_with c (results_after c (map (receipt_result trust t.logged) t.receipts))) fine

accepted_of : Leads → (trust : Trust) (receipt : List ℕ) (s t : Statement) (r : Receipt) (entries : List (List ℕ)) (index at rule : ℕ) → IsBelieved trust t → receipt_of receipt ≡ Some r
    → ShowsEntry trust r entries index at rule s.logged → IsSameWith receipt s t → ((verdict_on trust t).accepted ≡ true) × ((verdict_on trust t).statement ≡ Fine)
accepted_of leads trust receipt s t r entries index at rule believed read shows same =
    let fine = is_fine_with trust t s.receipts receipt believed same.receipts in
    let result : receipt_result trust t.logged receipt ≡ Accepted (length entries) (mth entries) index at rule =
    ap (λ (l : List ℕ). receipt_result trust l receipt) same.logged ∙ shown_accepted leads trust receipt s.logged r entries index at rule read shows in
    let one : list_any is_accepted (map (receipt_result trust t.logged) t.receipts) ≡ true =
    ap (λ (xs : List (List ℕ)). list_any is_accepted (map (receipt_result trust t.logged) xs)) same.receipts ∙ one_accepted (receipt_result trust t.logged) s.receipts receipt (ap is_accepted result) in
    (ap (λ (v : Verdict). v.accepted) (verdict_is trust t fine) ∙ one, ap (λ (v : Verdict). v.statement) (verdict_is trust t fine))

pub attached_accepted : Leads → OneStatement → LoggedIsStatement → AttachedIsSame → AttachedIsAccepted
attached_accepted leads one law attached_same trust bytes receipt attached s r entries index at rule v of believed read shows attaches (inl (stop, fault, is)) =
    let found = attached_same bytes receipt attached s of attaches in
    absurd (no_both one attached found.0 stop found.1 fault)
attached_accepted leads one law attached_same trust bytes receipt attached s r entries index at rule v of believed read shows attaches (inr (t, of2, is)) =
    let found = attached_same bytes receipt attached s of attaches in
    let same : IsSameWith receipt s t = subst (λ (x : Statement). IsSameWith receipt s x) (same_statement one attached found.0 t found.1 of2) found.2 in
    let accepted = accepted_of leads trust receipt s t r entries index at rule (believed_too law trust bytes attached s t of of2 same.logged believed) read shows same in
    (ap (λ (x : Verdict). x.statement) is ∙ accepted.1, ap (λ (x : Verdict). x.accepted) is ∙ accepted.0)
