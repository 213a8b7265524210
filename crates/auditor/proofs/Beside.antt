-- Bytes say one thing beside an older size and root.
use Rattle.std.proofs.Common.{◌≡◌, ◌⊎◌, ℕ, ◌<◌, ◌≤◌, List, length, take, refl, ap, sym, subst, ◌∙◌, inl, inr, arith}
use Rattle.std.specs.Prelude.{Bool, true, false}
use Rattle.std.specs.Str.{bytes_eq}
use Rattle.std.proofs.lemmas.Bool.{cases_lt}
use Rattle.std.proofs.lemmas.Slice.Eq.{bytes_eq-Decides}
use Rattle.merkle_tree.specs.Mth.{mth}
use Rattle.scitt_journal.specs.Laws.{AreBytes}
use Rattle.log_replay.specs.Records.{Log, entries_of, leaves_of}
use Rattle.auditor.specs.declared.words.Report.{Report}
use Rattle.auditor.specs.declared.words.Report.TheVariants as report
use Rattle.auditor.specs.declared.words.Since.{Since}
use Rattle.auditor.specs.declared.words.Since.TheVariants as since
use Rattle.auditor.specs.Reports.{Reports, ReportsSince, IsClean, Measures, BeginsWith}
use Rattle.auditor.specs.Laws.{OneReport, SomeReport, SomeSince, OneSince}
use Rattle.auditor.proofs.One.{Journal, one_report, some_report}

-- ---- two answers about one clean log

same_log : Journal → (bytes : List ℕ) (R S : Log) (rest left : ℕ) → IsClean bytes R rest → IsClean bytes S left → R ≡ S
same_log j bytes R S rest left a b = (j.unique bytes R S rest left a.holds b.holds).0

never_within : (R S : Log) (size entries : ℕ) → R ≡ S → size ≤ length (entries_of R) → entries ≡ length (entries_of S) → entries < size → ⊥
never_within R S size entries same within count below =
    omega (arith, within, count, below, ap (λ (X : Log). length (entries_of X)) same)

same_front : (R S : Log) (size : ℕ) (a b : List ℕ) → R ≡ S → BeginsWith R size a → BeginsWith S size b → a ≡ b
same_front R S size a b same p q = sym p.front ∙ ap (λ (X : Log). mth (take size (leaves_of X))) same ∙ q.front

-- ---- a clean log has no other report than a clean one

clean_report : (bytes : List ℕ) (R : Log) (rest : ℕ) → IsClean bytes R rest → Reports bytes (report.Clean (length R) (length (entries_of R)) rest (mth (leaves_of R)))
clean_report bytes R rest p = (R, p, record { count = refl; entry_count = refl; mth_is = refl })

abbrev IsCleanReport : Report → Type 0
IsCleanReport (report.Clean records entries rest root) = Unit {0}
IsCleanReport other = ⊥

no_other : OneReport → (bytes : List ℕ) (R : Log) (rest : ℕ) (r : Report) → IsClean bytes R rest → Reports bytes r → IsCleanReport r
no_other one bytes R rest r p reports =
    subst IsCleanReport (one bytes (report.Clean (length R) (length (entries_of R)) rest (mth (leaves_of R))) r (clean_report bytes R rest p) reports) tt

-- ---- one answer

plain : (size : ℕ) (old bytes : List ℕ) (r : Report) → ReportsSince size old bytes (since.Report r) → Reports bytes r
plain size old bytes (report.Clean a b c d) (R, p, m, f) = (R, p, m)
plain size old bytes (report.Bad n w r f) says = says
plain size old bytes report.NoLog says = says
plain size old bytes (report.Short at) says = says

never_fewer : Journal → (size : ℕ) (old bytes : List ℕ) (r : Report) (R : Log) (rest entries : ℕ) → ReportsSince size old bytes (since.Report r) → IsClean bytes R rest → entries ≡ length (entries_of R) → entries < size → ⊥
never_fewer j size old bytes (report.Clean a b c d) R rest entries (S, q, m, f) p count below =
    never_within S R size entries (same_log j bytes S R c rest q p) f.within count below
never_fewer j size old bytes (report.Bad n w r f) R rest entries says p count below = absurd (no_other (one_report j) bytes R rest (report.Bad n w r f) p says)
never_fewer j size old bytes report.NoLog R rest entries says p count below = absurd (no_other (one_report j) bytes R rest report.NoLog p says)
never_fewer j size old bytes (report.Short at) R rest entries says p count below = absurd (no_other (one_report j) bytes R rest (report.Short at) p says)

never_rooted : Journal → (size : ℕ) (old bytes : List ℕ) (r : Report) (R : Log) (rest : ℕ) (found : List ℕ) → ReportsSince size old bytes (since.Report r) → IsClean bytes R rest → BeginsWith R size found → (found ≡ old → ⊥) → ⊥
never_rooted j size old bytes (report.Clean a b c d) R rest found (S, q, m, f) p front differ =
    differ (same_front R S size found old (same_log j bytes R S rest c p q) front f)
never_rooted j size old bytes (report.Bad n w r f) R rest found says p front differ = absurd (no_other (one_report j) bytes R rest (report.Bad n w r f) p says)
never_rooted j size old bytes report.NoLog R rest found says p front differ = absurd (no_other (one_report j) bytes R rest report.NoLog p says)
never_rooted j size old bytes (report.Short at) R rest found says p front differ = absurd (no_other (one_report j) bytes R rest (report.Short at) p says)

pub one_since : Journal → OneSince
one_since j size old bytes (since.Report r) (since.Report s) a b =
    ap since.Report (one_report j bytes r s (plain size old bytes r a) (plain size old bytes s b))
one_since j size old bytes (since.Report r) (since.OldSize n) a (R, rest, p, count, below) =
    absurd (never_fewer j size old bytes r R rest n a p count below)
one_since j size old bytes (since.Report r) (since.OldRoot x) a (R, rest, p, front, differ) =
    absurd (never_rooted j size old bytes r R rest x a p front differ)
one_since j size old bytes (since.OldSize n) (since.Report r) (R, rest, p, count, below) a =
    absurd (never_fewer j size old bytes r R rest n a p count below)
one_since j size old bytes (since.OldSize n) (since.OldSize m) (R, rest, p, count, below) (S, left, q, number, under) =
    ap since.OldSize (count ∙ ap (λ (X : Log). length (entries_of X)) (same_log j bytes R S rest left p q) ∙ sym number)
one_since j size old bytes (since.OldSize n) (since.OldRoot x) (R, rest, p, count, below) (S, left, q, front, differ) =
    absurd (never_within S R size n (same_log j bytes S R left rest q p) front.within count below)
one_since j size old bytes (since.OldRoot x) (since.Report r) (R, rest, p, front, differ) a =
    absurd (never_rooted j size old bytes r R rest x a p front differ)
one_since j size old bytes (since.OldRoot x) (since.OldSize n) (S, left, q, front, differ) (R, rest, p, count, below) =
    absurd (never_within S R size n (same_log j bytes S R left rest q p) front.within count below)
one_since j size old bytes (since.OldRoot x) (since.OldRoot y) (R, rest, p, front, differ) (S, left, q, face, apart) =
    ap since.OldRoot (same_front R S size x y (same_log j bytes R S rest left p q) front face)

-- ---- and some

never_both : (a b : List ℕ) → bytes_eq a b ≡ false → a ≡ b → ⊥
never_both a b unlike same =
    let yes : bytes_eq a b ≡ true = (bytes_eq-Decides a b).1 same in
    cc

-- its first entries have the older root, or another
by_root : (size : ℕ) (old bytes : List ℕ) (R : Log) (rest : ℕ) (x : Bool) → bytes_eq (mth (take size (leaves_of R))) old ≡ x → IsClean bytes R rest → size ≤ length (entries_of R)
    → (s : Since) × ReportsSince size old bytes s
by_root size old bytes R rest true is p within = (
  since.Report (report.Clean (length R) (length (entries_of R)) rest (mth (leaves_of R))),
  (
    R,
    p,
    record { count = refl; entry_count = refl; mth_is = refl },
    record { within = within; front = (bytes_eq-Decides (mth (take size (leaves_of R))) old).0 is },
  ),
)
by_root size old bytes R rest false is p within = (
  since.OldRoot (mth (take size (leaves_of R))),
  (R, rest, p, record { within = within; front = refl }, never_both (mth (take size (leaves_of R))) old is),
)

-- it has fewer entries than the older size, or not
by_size : (size : ℕ) (old bytes : List ℕ) (R : Log) (rest : ℕ) → (length (entries_of R) < size) ⊎ (size ≤ length (entries_of R)) → IsClean bytes R rest → (s : Since) × ReportsSince size old bytes s
by_size size old bytes R rest (inl below) p = (since.OldSize (length (entries_of R)), (R, rest, p, refl, below))
by_size size old bytes R rest (inr within) p =
    by_root size old bytes R rest (bytes_eq (mth (take size (leaves_of R))) old) refl p within

by_report : (size : ℕ) (old bytes : List ℕ) (r : Report) → Reports bytes r → (s : Since) × ReportsSince size old bytes s
by_report size old bytes (report.Clean a b c d) (R, p, m) = by_size size old bytes R c (cases_lt (length (entries_of R)) size) p
by_report size old bytes (report.Bad n w r f) says = (since.Report (report.Bad n w r f), says)
by_report size old bytes report.NoLog says = (since.Report report.NoLog, says)
by_report size old bytes (report.Short at) says = (since.Report (report.Short at), says)

pub some_since : Journal → SomeSince
some_since j size old bytes are =
    let found = some_report j bytes are in
    by_report size old bytes found.0 found.1
