-- What is written fails no rule, and what a record that fails none says.
use Rattle.std.proofs.Common.{◌≡◌, ℕ, ◌+◌, ◌<◌, ◌≤◌, min, List, [], ◌∷◌, Bool, true, false, ◌||◌, not, nat_lt, ◌==◌, Option, None, Some, refl, sym, ap, ◌∙◌, subst, arith, length}
use Rattle.std.specs.Prelude.{option_map, unwrap_or}
use Rattle.std.specs.Option.{option_or}
use Rattle.std.proofs.lemmas.Bool.{and_from, and_parts, lt-ltb, le-ltb, le-leb, eq-eqb, eqb-true, ltb-true, leb-true, ltb-false}
use Rattle.cbor_core.specs.Rows.{first_row}
use Rattle.hss_keys.specs.Levels.{capacity}
use Rattle.hss_keys.specs.Functions.{flat_index}
use Rattle.statement.specs.Said.{Said}
use Rattle.log_replay.specs.declared.parts.Header.{Header}
use Rattle.log_replay.specs.declared.parts.BatchParts.{BatchParts}
use Rattle.log_replay.specs.declared.words.Judgement.{Judgement}
use Rattle.log_replay.specs.declared.words.Judgement.TheVariants.{Known, Admit, Deny}
use Rattle.log_replay.specs.declared.words.Why.TheVariants as why
use Rattle.log_replay.specs.Records.{Log, Record, Entry, reserve_record, batch_record, record_of, header_of, entries_of, entry_of, reserved_of, used_of, logged_bytes}
use Rattle.log_replay.specs.Judging.{judge, judge_new, in_force, place_of, facts_before, moment_after, last_moment}
use Rattle.log_replay.specs.WellMade.{fails_by, failing_after, failing_by, failing_of, entry_rows, entry_failing, entries_failing, batch_rows, batch_failing, index_holds, admits_by, reserve_holds, has_shape, header_holds, most_logged_bytes}
use Rattle.log_replay.specs.Growth.{AdmissibleFits, ReserveFits, HeaderFits, ReserveRises, IndexRises, EntryIsNew}

-- rows of which none applies
abbrev AllFalse : {A : Type 0} → List (Bool × A) → Type 0
AllFalse [] = Unit {0}
AllFalse (row ∷ rows) = (row.0 ≡ false) × AllFalse rows

pub none_fails : {A : Type 0} (rows : List (Bool × A)) → AllFalse rows → first_row rows ≡ None
none_fails [] e = refl
none_fails ((true, a) ∷ rows) e = let bad = e.0 in cc
none_fails ((false, a) ∷ rows) e = none_fails rows e.1

pub all_false : {A : Type 0} (rows : List (Bool × A)) → first_row rows ≡ None → AllFalse rows
all_false [] e = tt
all_false ((true, a) ∷ rows) e = cc
all_false ((false, a) ∷ rows) e = (refl, all_false rows e)

not_true : (b : Bool) → b ≡ true → not b ≡ false
not_true true e = refl
not_true false e = cc

pub was_true : (b : Bool) → not b ≡ false → b ≡ true
was_true true e = refl
was_true false e = cc

or_false : (a b : Bool) → a ≡ false → b ≡ false → (a || b) ≡ false
or_false false b e f = f
or_false true b e f = cc

pub or_first : (a b : Bool) → (a || b) ≡ false → a ≡ false
or_first false b e = refl
or_first true b e = cc

pub or_second : (a b : Bool) → (a || b) ≡ false → b ≡ false
or_second false b e = e
or_second true b e = cc

both_none : {A : Type 0} (a b : Option A) → a ≡ None → b ≡ None → option_or a b ≡ None
both_none None b e f = f
both_none (Some x) b e f = cc

pub first_none : {A : Type 0} (a b : Option A) → option_or a b ≡ None → a ≡ None
first_none None b e = refl
first_none (Some x) b e = cc

pub second_none : {A : Type 0} (a b : Option A) → option_or a b ≡ None → b ≡ None
second_none None b e = e
second_none (Some x) b e = cc

admits_same : (rule : ℕ) (j : Judgement) → j ≡ Admit rule → admits_by rule j ≡ true
admits_same rule j e = ap (admits_by rule) e ∙ eq-eqb rule rule refl

admitted : (rule : ℕ) (j : Judgement) → admits_by rule j ≡ true → j ≡ Admit rule
admitted rule (Known i) e = cc
admitted rule (Deny other) e = cc
admitted rule (Admit judged) e = ap Admit (eqb-true judged rule e)

-- the judged moment is judged again as itself
judge_again : (h : Header) (E : List Entry) (s : Said) (m : ℕ) → judge h E s (moment_after E m) ≡ judge h E s m
judge_again h E s m =
    let same : moment_after E (moment_after E m) ≡ moment_after E m = omega arith in
    ap (λ n. unwrap_or (option_map Known (place_of E s)) (judge_new (in_force h E) (facts_before E) s n)) same

admitted_rows : (R : Log) (h : Header) (s : Said) (m rule : ℕ) → judge h (entries_of R) s m ≡ Admit rule → length (entries_of R) + 1 ≤ h.max_entries → logged_bytes (entries_of R) + length s.logged ≤ most_logged_bytes →
    first_row (entry_rows h (entries_of R) (record { at = moment_after (entries_of R) m; rule = rule; statement = s })) ≡ None
admitted_rows R h s m rule judged room bytes =
    let E = entries_of R in
    let e : Entry = record { at = moment_after E m; rule = rule; statement = s } in
    none_fails (entry_rows h E e) (
      le-ltb e.at (last_moment E) (omega arith),
      (
        not_true (admits_by e.rule (judge h E s e.at)) (admits_same rule (judge h E s e.at) (judge_again h E s m ∙ judged)),
        (or_false _ _ (le-ltb h.max_entries (length E + 1) room) (le-ltb most_logged_bytes (logged_bytes E + length s.logged) bytes), tt),
      ),
    )

index_fits : (reserved used index : ℕ) (o : Option ℕ) → o ≡ Some index → index < reserved → used ≤ index → index_holds reserved used index o ≡ true
index_fits reserved used index None e below above = cc
index_fits reserved used index (Some i) e below above =
    let same : i ≡ index = cc in
    and_from _ _ (and_from _ _ (eq-eqb i index same) (lt-ltb i reserved (omega (arith, same, below)))) (le-leb used i (omega (arith, same, above)))

-- a record that has its shape, and fails no later rule
fits_by : (R : Log) (h : Header) (body : List ℕ) (r : Record) → header_of R ≡ Some h → record_of body ≡ Some r → has_shape (Some r) ≡ true → failing_after R (Some h) (Some r) ≡ None → failing_of R body ≡ None
fits_by R h body r headed reads shaped none =
    let whole : failing_by R (Some r) ≡ None =
    both_none (first_row ((not (has_shape (Some r)), fails_by why.Form) ∷ [])) (failing_after R (header_of R) (Some r))
    (none_fails ((not (has_shape (Some r)), fails_by why.Form) ∷ []) (not_true (has_shape (Some r)) shaped, tt))
    (subst (λ (k : Option Header). failing_after R k (Some r) ≡ None) (sym headed) none) in
    subst (λ (o : Option Record). failing_by R o ≡ None) (sym reads) whole

-- the later rules, of a record that fails none
pub later_none : (R : Log) (h : Header) (body : List ℕ) (r : Record) → header_of R ≡ Some h → record_of body ≡ Some r → failing_of R body ≡ None
    → (first_row ((not (has_shape (Some r)), fails_by why.Form) ∷ []) ≡ None) × (failing_after R (Some h) (Some r) ≡ None)
later_none R h body r headed reads none =
    let whole : failing_by R (Some r) ≡ None = subst (λ (o : Option Record). failing_by R o ≡ None) reads none in
    let form = first_row ((not (has_shape (Some r)), fails_by why.Form) ∷ []) in (
      first_none form (failing_after R (header_of R) (Some r)) whole,
      subst (λ (k : Option Header). failing_after R k (Some r) ≡ None) headed (second_none form (failing_after R (header_of R) (Some r)) whole),
    )

pub admissible_fits : AdmissibleFits
unfolding failing_after
admissible_fits R h s m rule index leaf signature body is =
    let b : BatchParts = record { entries = leaf ∷ []; index = index; signature = signature } in
    let entry : entry_failing h (entries_of R) (entry_of leaf) ≡ None = ap (entry_failing h (entries_of R)) is.entry ∙ admitted_rows R h s m rule is.judged is.room is.bytes in
    let none : batch_failing h R b ≡ None =
    both_none (entries_failing h (entries_of R) (leaf ∷ [])) (first_row (batch_rows h R b))
    (both_none (entry_failing h (entries_of R) (entry_of leaf)) None entry refl)
    (none_fails (batch_rows h R b) (not_true _ (index_fits (reserved_of R) (used_of R) index (flat_index h.levels signature) is.indexed is.reserved is.above), (not_true _ is.signed, tt))) in
    fits_by R h body (batch_record b) is.headed is.reads refl none

reserve_true : (h : Header) (last : ℕ) → 1 ≤ h.block → last < capacity h.levels → reserve_holds h last (min (last + h.block) (capacity h.levels)) ≡ true
reserve_true h last some left =
    let upto = min (last + h.block) (capacity h.levels) in
    and_from _ _ (and_from _ _ (lt-ltb last upto (omega arith)) (le-leb upto (last + h.block) (omega arith))) (le-leb upto (capacity h.levels) (omega arith))

pub reserve_fits : ReserveFits
unfolding failing_after
reserve_fits R h body headed some left reads =
    let upto = min (reserved_of R + h.block) (capacity h.levels) in
    fits_by R h body (reserve_record upto) headed reads refl
    (none_fails ((not (reserve_holds h (reserved_of R) upto), fails_by why.Reserve) ∷ []) (not_true _ (reserve_true h (reserved_of R) some left), tt))

pub header_fits : HeaderFits
unfolding failing_after
header_fits h body reads holds =
    subst (λ (o : Option Record). failing_by [] o ≡ None) (sym reads)
    (none_fails ((not (header_holds h), fails_by why.Header) ∷ []) (not_true (header_holds h) holds, tt))

pub reserve_rises : ReserveRises
unfolding failing_after
reserve_rises R h body upto headed reads none =
    was_true _ (all_false ((not (reserve_holds h (reserved_of R) upto), fails_by why.Reserve) ∷ []) (later_none R h body (reserve_record upto) headed reads none).1).0

pub index_says : (reserved used index : ℕ) (o : Option ℕ) → index_holds reserved used index o ≡ true → (used ≤ index) × (index < reserved)
index_says reserved used index None e = cc
index_says reserved used index (Some i) e =
    let a = and_parts _ _ e in
    let b = and_parts _ _ a.0 in
    let same : i ≡ index = eqb-true i index b.0 in
    let below : i < reserved = ltb-true i reserved b.1 in
    let above : used ≤ i = leb-true used i a.1 in
    (omega (arith, same, above), omega (arith, same, below))

pub index_rises : IndexRises
unfolding failing_after
index_rises R h body b headed reads none =
    let rest = second_none (entries_failing h (entries_of R) b.entries) (first_row (batch_rows h R b)) (later_none R h body (batch_record b) headed reads none).1 in
    index_says (reserved_of R) (used_of R) b.index (flat_index h.levels b.signature) (was_true _ (all_false (batch_rows h R b) rest).0)

-- a Batch of the right number of entries has one
pub one_of : (xs : List (List ℕ)) → (length xs == 1) ≡ true → (x : List ℕ) × (xs ≡ x ∷ [])
one_of [] e = let zero = eqb-true 0 1 e in absurd (omega (arith, zero))
one_of (x ∷ []) e = (x, refl)
one_of (x ∷ y ∷ more) e = let two : length (x ∷ y ∷ more) ≡ 1 = eqb-true _ _ e in absurd (omega (arith, two))

pub entry_there : (h : Header) (E : List Entry) (o : Option Entry) → entry_failing h E o ≡ None → (e : Entry) × (o ≡ Some e) × (first_row (entry_rows h E e) ≡ None)
entry_there h E None f = cc
entry_there h E (Some e) f = (e, refl, f)

pub entry_is_new : EntryIsNew
unfolding failing_after
entry_is_new R h body b headed reads none =
    let E = entries_of R in
    let both = later_none R h body (batch_record b) headed reads none in
    let shape = was_true _ (all_false ((not (has_shape (Some (batch_record b))), fails_by why.Form) ∷ []) both.0).0 in
    let one = one_of b.entries shape in
    let all : entries_failing h E b.entries ≡ None = first_none (entries_failing h E b.entries) (first_row (batch_rows h R b)) both.1 in
    let first : entry_failing h E (entry_of one.0) ≡ None =
    first_none (entry_failing h E (entry_of one.0)) None (subst (λ (xs : List (List ℕ)). entries_failing h E xs ≡ None) one.1 all) in
    let there = entry_there h E (entry_of one.0) first in
    let rows = all_false (entry_rows h E there.0) there.2 in
    let verdict = was_true _ rows.1.0 in
    let room = or_first (nat_lt h.max_entries (length E + 1)) _ rows.1.1.0 in
    (one.0, there.0, one.1, there.1, admitted there.0.rule (judge h E there.0.statement there.0.at) verdict, ltb-false h.max_entries (length E + 1) room)
