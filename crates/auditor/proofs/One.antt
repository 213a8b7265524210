-- Bytes have one report.
use Rattle.std.proofs.Common.{◌≡◌, ◌⊎◌, ℕ, suc, ◌<◌, List, [], ◌∷◌, ◌++◌, Some, None, Option, length, take, get_or, refl, ap, sym, subst, ◌∙◌, inl, inr, arith, append_assoc, append-nil, length-append}
use Rattle.std.proofs.Math.Seq.{take-append_seam, get_or-append_seam, take-suc}
use Rattle.std.proofs.lemmas.Bool.{cases_order}
use Rattle.std.proofs.lemmas.List.{take-take}
use Rattle.std.proofs.lemmas.Option.{slice_get_within, get_or_from_slice_get, slice_get-get_or}
use Rattle.scitt_journal.specs.Layout.{NoLog, RecordsOf, Short, CutAfter}
use Rattle.scitt_journal.specs.Laws.{OneOfThree, RecordsAreUnique, NoLogHasNoRecords, ShortHasNoRecords, ShortIsUnique, CutIsUnique}
use Rattle.log_replay.specs.declared.words.Failing.{Failing}
use Rattle.log_replay.specs.Records.{Log, entries_of, leaves_of}
use Rattle.log_replay.specs.WellMade.{WellMade, IsFirstBad, failing_of}
use Rattle.log_replay.specs.Laws.{OneMore, OneLess, FrontsAreWellMade}
use Rattle.merkle_tree.specs.Mth.{mth}
use Rattle.auditor.specs.declared.words.Report.{Report}
use Rattle.auditor.specs.declared.words.Report.TheVariants as report
use Rattle.auditor.specs.Reports.{Reports, Holds, IsClean, Measures}
use Rattle.auditor.specs.Laws.{SomeReport, OneReport}

-- ---- a list is well made, or has a first bad record

abbrev IsJudged : Log → Type 0
IsJudged R = WellMade R ⊎ ((n : ℕ) × (f : Failing) × IsFirstBad R n f)

here : (P : Log) (b : List ℕ) (R : Log) (f : Failing) → WellMade P → failing_of P b ≡ Some f → IsFirstBad (P ++ b ∷ R) (length P) f
here P b R f sound fails =
    let front : take (length P) (P ++ b ∷ R) ≡ P = take-append_seam P (b ∷ R) in
    let longer : length P < length (P ++ b ∷ R) = omega (arith, length-append P (b ∷ R)) in
    record {
      before = subst WellMade (sym front) sound;
      body = b;
      there = slice_get-get_or (P ++ b ∷ R) (length P) b longer ∙ ap Some (get_or-append_seam P b R b);
      failing = subst (λ (X : Log). failing_of X b ≡ Some f) (sym front) fails;
    }

step : (P : Log) (b : List ℕ) (R : Log) (o : Option Failing) → failing_of P b ≡ o → WellMade P → (failing_of P b ≡ None → IsJudged ((P ++ b ∷ []) ++ R)) → IsJudged (P ++ b ∷ R)
step P b R None e sound next = subst IsJudged (append_assoc P (b ∷ []) R) (next e)
step P b R (Some f) e sound next = inr (length P, f, here P b R f sound e)

judged_after : OneMore → (P R : Log) → WellMade P → IsJudged (P ++ R)
judged_after more P [] sound = inl (subst WellMade (sym (append-nil P)) sound)
judged_after more P (b ∷ R) sound = step P b R (failing_of P b) refl sound (λ e. judged_after more (P ++ b ∷ []) R (more P b sound e))

-- ---- and one alone

some_eq : {A : Type 0} (x y : A) → Some x ≡ Some y → x ≡ y
some_eq x y e = cc

never_some : {A : Type 0} (f : A) → None ≡ Some f → ⊥
never_some f e = cc

never : OneLess → (R : Log) (n : ℕ) (f : Failing) → IsFirstBad R n f → WellMade (take (suc n) R) → ⊥
never less R n f b sound =
    let within : n < length R = slice_get_within R n b.body b.there in
    let last : get_or R n b.body ≡ b.body = get_or_from_slice_get R n b.body b.body b.there in
    let front : take (suc n) R ≡ take n R ++ b.body ∷ [] = take-suc R n b.body within ∙ ap (λ (x : List ℕ). take n R ++ x ∷ []) last in
    never_some f (sym (less (take n R) b.body (subst WellMade front sound)) ∙ b.failing)

never_sound : OneLess → FrontsAreWellMade → (R : Log) (n : ℕ) (f : Failing) → IsFirstBad R n f → WellMade R → ⊥
never_sound less fronts R n f b sound = never less R n f b (fronts R (suc n) sound)

never_before : OneLess → FrontsAreWellMade → (R : Log) (n m : ℕ) (f g : Failing) → IsFirstBad R n f → IsFirstBad R m g → n < m → ⊥
never_before less fronts R n m f g a b below =
    never less R n f a (subst WellMade (take-take (suc n) m R (omega (arith, below))) (fronts (take m R) (suc n) b.before))

same_failing : (R : Log) (n : ℕ) (f g : Failing) → IsFirstBad R n f → IsFirstBad R n g → f ≡ g
same_failing R n f g a b =
    let body : a.body ≡ b.body = some_eq a.body b.body (sym a.there ∙ b.there) in
    some_eq f g (sym a.failing ∙ ap (λ (x : List ℕ). failing_of (take n R) x) body ∙ b.failing)

same_number : OneLess → FrontsAreWellMade → (R : Log) (n m : ℕ) (f g : Failing) → IsFirstBad R n f → IsFirstBad R m g → n ≡ m
same_number less fronts R n m f g a b = elim (cases_order n m) [
  | inl same ↦ same
  | inr (inl below) ↦ absurd (never_before less fronts R n m f g a b below)
  | inr (inr above) ↦ absurd (never_before less fronts R m n g f b a above)
]

-- ---- the records of bytes

pub record Journal : Type 0 where
  pub three : OneOfThree
  pub unique : RecordsAreUnique
  pub no_log : NoLogHasNoRecords
  pub short : ShortHasNoRecords
  pub short_at : ShortIsUnique
  pub short_after : CutIsUnique
  pub more : OneMore
  pub less : OneLess
  pub fronts : FrontsAreWellMade

short_of : (bytes : List ℕ) (R : Log) (at : ℕ) → CutAfter bytes R at → Short bytes at
short_of bytes R at cut = record { bodies = R; after = cut }

not_both : Journal → (bytes : List ℕ) (R S : Log) (rest at : ℕ) → RecordsOf bytes R rest → CutAfter bytes S at → ⊥
not_both j bytes R S rest at holds cut = j.short bytes at (short_of bytes S at cut) R (inr (rest, holds))

same_log : Journal → (bytes : List ℕ) (R S : Log) → Holds bytes R → Holds bytes S → R ≡ S
same_log j bytes R S (inl (rest, a)) (inl (left, b)) = (j.unique bytes R S rest left a b).0
same_log j bytes R S (inl (rest, a)) (inr (at, b)) = absurd (not_both j bytes R S rest at a b)
same_log j bytes R S (inr (at, a)) (inl (rest, b)) = absurd (not_both j bytes S R rest at b a)
same_log j bytes R S (inr (at, a)) (inr (place, b)) = (j.short_after bytes R S at place a b).0

none_held : Journal → (bytes : List ℕ) (R : Log) → NoLog bytes → Holds bytes R → ⊥
none_held j bytes R none (inl (rest, a)) = (j.no_log bytes none).0 R rest a
none_held j bytes R none (inr (at, a)) = (j.no_log bytes none).1 at (short_of bytes R at a)

not_bad : Journal → (bytes : List ℕ) (R S : Log) (n : ℕ) (f : Failing) → Holds bytes R → WellMade R → Holds bytes S → IsFirstBad S n f → ⊥
not_bad j bytes R S n f a sound b bad =
    never_sound j.less j.fronts S n f bad (subst WellMade (same_log j bytes R S a b) sound)

-- ---- one report

one_clean : Journal → (bytes : List ℕ) (R S : Log) (records entries rest count size left : ℕ) (root top : List ℕ) → IsClean bytes R rest → Measures R records entries root → IsClean bytes S left
    → Measures S count size top → report.Clean records entries rest root ≡ report.Clean count size left top
one_clean j bytes R S records entries rest count size left root top a m b n =
    let same = j.unique bytes R S rest left a.holds b.holds in
    let e1 : records ≡ count = m.count ∙ ap length same.0 ∙ sym n.count in
    let e2 : entries ≡ size = m.entry_count ∙ ap (λ (X : Log). length (entries_of X)) same.0 ∙ sym n.entry_count in
    let e3 : rest ≡ left = same.1 in
    let e4 : root ≡ top = m.mth_is ∙ ap (λ (X : Log). mth (leaves_of X)) same.0 ∙ sym n.mth_is in
    rw (e1, e2, e3, e4)

abbrev bad_of : ℕ → Failing → Report
bad_of n f = report.Bad n f.why f.recorded f.found

one_bad : Journal → (bytes : List ℕ) (R S : Log) (n m : ℕ) (f g : Failing) → Holds bytes R → IsFirstBad R n f → Holds bytes S → IsFirstBad S m g → bad_of n f ≡ bad_of m g
one_bad j bytes R S n m f g a bad b worse =
    let same : R ≡ S = same_log j bytes R S a b in
    let first : IsFirstBad S n f = subst (λ (X : Log). IsFirstBad X n f) same bad in
    let number : n ≡ m = same_number j.less j.fronts S n m f g first worse in
    let failing : f ≡ g = same_failing S m f g (subst (λ (k : ℕ). IsFirstBad S k f) number first) worse in
    ap (λ (k : ℕ). bad_of k f) number ∙ ap (λ (x : Failing). bad_of m x) failing

pub one_report : Journal → OneReport
one_report j bytes (report.Clean a b c d) (report.Clean e f g h) (R, p, m) (S, q, n) =
    one_clean j bytes R S a b c e f g d h p m q n
one_report j bytes (report.Clean a b c d) (report.Bad n w r f) (R, p, m) (S, q, bad) =
    absurd (not_bad j bytes R S n _ (inl (c, p.holds)) p.sound q bad)
one_report j bytes (report.Clean a b c d) report.NoLog (R, p, m) none = absurd (none_held j bytes R none (inl (c, p.holds)))
one_report j bytes (report.Clean a b c d) (report.Short at) (R, p, m) (S, cut, sound) = absurd (not_both j bytes R S c at p.holds cut)
one_report j bytes (report.Bad n w r f) (report.Clean a b c d) (S, q, bad) (R, p, m) =
    absurd (not_bad j bytes R S n _ (inl (c, p.holds)) p.sound q bad)
one_report j bytes (report.Bad n w r f) (report.Bad m v s g) (R, p, bad) (S, q, worse) =
    one_bad j bytes R S n m (record { why = w; recorded = r; found = f }) (record { why = v; recorded = s; found = g }) p bad q worse
one_report j bytes (report.Bad n w r f) report.NoLog (R, p, bad) none = absurd (none_held j bytes R none p)
one_report j bytes (report.Bad n w r f) (report.Short at) (S, q, bad) (R, cut, sound) =
    absurd (not_bad j bytes R S n _ (inr (at, cut)) sound q bad)
one_report j bytes report.NoLog (report.Clean a b c d) none (R, p, m) = absurd (none_held j bytes R none (inl (c, p.holds)))
one_report j bytes report.NoLog (report.Bad n w r f) none (R, p, bad) = absurd (none_held j bytes R none p)
one_report j bytes report.NoLog report.NoLog none nothing = refl
one_report j bytes report.NoLog (report.Short at) none (R, cut, sound) = absurd (none_held j bytes R none (inr (at, cut)))
one_report j bytes (report.Short at) (report.Clean a b c d) (S, cut, sound) (R, p, m) = absurd (not_both j bytes R S c at p.holds cut)
one_report j bytes (report.Short at) (report.Bad n w r f) (R, cut, sound) (S, q, bad) =
    absurd (not_bad j bytes R S n _ (inr (at, cut)) sound q bad)
one_report j bytes (report.Short at) report.NoLog (R, cut, sound) none = absurd (none_held j bytes R none (inr (at, cut)))
one_report j bytes (report.Short at) (report.Short place) (R, cut, sound) (S, other, fine) =
    ap report.Short (j.short_after bytes R S at place cut other).1

-- ---- and some

held : (bytes : List ℕ) (R : Log) → Holds bytes R → (WellMade R → (r : Report) × Reports bytes r) → IsJudged R → (r : Report) × Reports bytes r
held bytes R holds clean (inl sound) = clean sound
held bytes R holds clean (inr (n, f, bad)) = (bad_of n f, (R, holds, bad))

of_three : Journal → (bytes : List ℕ) → NoLog bytes ⊎ (((bodies : List (List ℕ)) × ((rest : ℕ) × RecordsOf bytes bodies rest)) ⊎ ((at : ℕ) × Short bytes at)) → (r : Report) × Reports bytes r
of_three j bytes (inl none) = (report.NoLog, none)
of_three j bytes (inr (inl (R, (rest, holds)))) =
    held bytes R (inl (rest, holds)) (λ sound. (report.Clean (length R) (length (entries_of R)) rest (mth (leaves_of R)), (R, record { holds = holds; sound = sound }, record { count = refl; entry_count = refl; mth_is = refl }))) (judged_after j.more [] R tt)
of_three j bytes (inr (inr (at, short))) =
    held bytes short.bodies (inr (at, short.after)) (λ sound. (report.Short at, (short.bodies, short.after, sound))) (judged_after j.more [] short.bodies tt)

pub some_report : Journal → SomeReport
some_report j bytes are = of_three j bytes (j.three bytes are)
