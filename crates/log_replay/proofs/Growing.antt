-- A well made log, one record after another.
use Rattle.std.proofs.Common.{◌≡◌, ℕ, zero, suc, ◌+◌, ◌<◌, ◌≤◌, List, [], ◌∷◌, ◌++◌, Bool, true, false, cond, not, Option, None, Some, refl, sym, ap, ◌∙◌, subst, arith, length, length-append, append-nil, append_assoc, inl, inr, get_or, ◌⊎◌}
use Rattle.std.specs.Prelude.{option_map, unwrap_or, filter_map, flat_map, fold, position, slice_get, sum_by}
use Rattle.std.specs.Option.{option_or}
use Rattle.std.specs.List.{cons_option, position_from}
use Rattle.std.specs.Str.{bytes_eq}
use Rattle.std.proofs.Math.Seq.{get_or-append_seam}
use Rattle.std.proofs.lemmas.Bool.{and_parts, eqb-true, ltb-true, leb-true, cases_lt}
use Rattle.std.proofs.lemmas.List.{get_or_append_left}
use Rattle.std.proofs.lemmas.List.Sums.{fold-append}
use Rattle.std.proofs.lemmas.List.Elements.{filter_map-append}
use Rattle.std.proofs.lemmas.Grind.{flat_map-append}
use Rattle.std.proofs.lemmas.Option.{slice_get_within, get_or_from_slice_get, slice_get-get_or}
use Rattle.std.proofs.lemmas.Iterator.Adapters.{position_from-zero}
use Rattle.std.proofs.lemmas.Slice.Eq.{bytes_eq-Decides}
use Rattle.cbor_core.specs.Rows.{first_row}
use Rattle.hss_keys.specs.Levels.{capacity}
use Rattle.statement.specs.Said.{id_of}
use Rattle.log_replay.specs.declared.parts.Header.{Header}
use Rattle.log_replay.specs.declared.parts.BatchParts.{BatchParts}
use Rattle.log_replay.specs.declared.words.Judgement.{Judgement}
use Rattle.log_replay.specs.declared.words.Judgement.TheVariants.{Known, Admit}
use Rattle.log_replay.specs.declared.words.Why.TheVariants as why
use Rattle.log_replay.specs.Records.{Log, Record, Entry, header_record, reserve_record, batch_record, record_of, records_of, header_of, header_first, leaves_of, entries_in, entries_of, entry_of, reserved_of, reserved_after, logged_bytes}
use Rattle.log_replay.specs.Judging.{judge, place_of}
use Rattle.log_replay.specs.WellMade.{WellMade, WellMadeAfter, failing_after, failing_of, fails_by, has_shape, header_holds, reserve_holds, entry_rows, entry_failing, entries_failing, batch_rows, most_logged_bytes}
use Rattle.log_replay.specs.Growth.{HeaderStays, HeaderIsFirst, NoIdTwice, EntriesAreLeaves, FewRecords, IsBounded}
use Rattle.log_replay.proofs.Fitting.{was_true, all_false, first_none, reserve_rises, entry_is_new, later_none, or_second}

-- what holds of no records, and with each record that fails no rule, holds of each well made log
pub grow : (Q : Log → Type 0) → ((P : Log) (body : List ℕ) → Q P → failing_of P body ≡ None → Q (P ++ body ∷ [])) → (P R : Log) → Q P → WellMadeAfter P R → Q (P ++ R)
grow Q step P [] q w = subst Q (sym (append-nil P)) q
grow Q step P (b ∷ R) q w = subst Q (append_assoc P (b ∷ []) R) (grow Q step (P ++ b ∷ []) R (step P b q w.0) w.1)

-- ---- what a log says with one record more

pub records-more : (R : Log) (body : List ℕ) (r : Record) → record_of body ≡ Some r → records_of (R ++ body ∷ []) ≡ records_of R ++ r ∷ []
records-more R body r e = filter_map-append record_of R (body ∷ []) ∙ ap (λ o. records_of R ++ cons_option o []) e

pub leaves-more : (R : Log) (body : List ℕ) (r : Record) → record_of body ≡ Some r → leaves_of (R ++ body ∷ []) ≡ leaves_of R ++ entries_in r
leaves-more R body r e =
    ap (flat_map entries_in) (records-more R body r e) ∙ flat_map-append entries_in (records_of R) (r ∷ [])
    ∙ ap (λ xs. leaves_of R ++ xs) (append-nil (entries_in r))

pub reserved-more : (R : Log) (body : List ℕ) (r : Record) → record_of body ≡ Some r → reserved_of (R ++ body ∷ []) ≡ reserved_after (reserved_of R) r
reserved-more R body r e = ap (fold reserved_after 0) (records-more R body r e) ∙ fold-append reserved_after 0 (records_of R) (r ∷ [])

pub entries-kept : (R : Log) (body : List ℕ) (r : Record) → record_of body ≡ Some r → entries_in r ≡ [] → entries_of (R ++ body ∷ []) ≡ entries_of R
entries-kept R body r e none = ap (filter_map entry_of) (leaves-more R body r e ∙ ap (λ xs. leaves_of R ++ xs) none ∙ append-nil (leaves_of R))

pub entries-added : (R : Log) (body leaf : List ℕ) (b : BatchParts) (e : Entry) → record_of body ≡ Some (batch_record b) → b.entries ≡ leaf ∷ [] → entry_of leaf ≡ Some e → entries_of (R ++ body ∷ []) ≡ entries_of R ++ e ∷ []
entries-added R body leaf b e reads one is =
    ap (filter_map entry_of) (leaves-more R body (batch_record b) reads ∙ ap (λ xs. leaves_of R ++ xs) one)
    ∙ filter_map-append entry_of (leaves_of R) (leaf ∷ []) ∙ ap (λ o. entries_of R ++ cons_option o []) is

first_stays : (rs ss : List Record) (h : Header) → header_first rs ≡ Some h → header_first (rs ++ ss) ≡ Some h
first_stays [] ss h e = cc
first_stays (header_record g ∷ rs) ss h e = e
first_stays (reserve_record n ∷ rs) ss h e = cc
first_stays (batch_record b ∷ rs) ss h e = cc

pub header_stays : HeaderStays
header_stays R S h e = ap header_first (filter_map-append record_of R S) ∙ first_stays (records_of R) (records_of S) h e

-- ---- the three ways in which a log grows

-- the log, what it has, and the record
pub record Begins (P : Log) (body : List ℕ) : Type 0 where
  pub head : Header
  pub empty : header_of P ≡ None
  pub reads : record_of body ≡ Some (header_record head)
  pub holds : header_holds head ≡ true

pub record Reserves (P : Log) (body : List ℕ) : Type 0 where
  pub head : Header
  pub upto : ℕ
  pub headed : header_of P ≡ Some head
  pub reads : record_of body ≡ Some (reserve_record upto)
  pub holds : reserve_holds head (reserved_of P) upto ≡ true

pub record Adds (P : Log) (body : List ℕ) : Type 0 where
  pub head : Header
  pub batch : BatchParts
  pub leaf : List ℕ
  pub entry : Entry
  pub headed : header_of P ≡ Some head
  pub reads : record_of body ≡ Some (batch_record batch)
  pub one : batch.entries ≡ leaf ∷ []
  pub is : entry_of leaf ≡ Some entry
  pub judged : judge head (entries_of P) entry.statement entry.at ≡ Admit entry.rule
  pub room : length (entries_of P) + 1 ≤ head.max_entries
  pub bytes : logged_bytes (entries_of P) + length entry.statement.logged ≤ most_logged_bytes

abbrev pub Grows : Log → List ℕ → Type 0
Grows P body = Begins P body ⊎ (Reserves P body ⊎ Adds P body)

-- the bytes of an entry that fails no rule
fits_bytes : (P : Log) (h : Header) (body : List ℕ) (b : BatchParts) (leaf : List ℕ) (e : Entry) → header_of P ≡ Some h → record_of body ≡ Some (batch_record b) → failing_of P body ≡ None
    → b.entries ≡ leaf ∷ [] → entry_of leaf ≡ Some e → logged_bytes (entries_of P) + length e.statement.logged ≤ most_logged_bytes
unfolding failing_after
fits_bytes P h body b leaf e headed reads none one is =
    let E = entries_of P in
    let all : entries_failing h E b.entries ≡ None = first_none (entries_failing h E b.entries) (first_row (batch_rows h P b)) (later_none P h body (batch_record b) headed reads none).1 in
    let first : entry_failing h E (entry_of leaf) ≡ None = first_none (entry_failing h E (entry_of leaf)) None (subst (λ (xs : List (List ℕ)). entries_failing h E xs ≡ None) one all) in
    let rows = all_false (entry_rows h E e) (subst (λ (o : Option Entry). entry_failing h E o ≡ None) is first) in
    Rattle.std.proofs.lemmas.Bool.ltb-false most_logged_bytes (logged_bytes E + length e.statement.logged) (or_second (Rattle.std.specs.Prelude.nat_lt h.max_entries (length E + 1)) _ rows.1.1.0)

grows_by : (P : Log) (body : List ℕ) (k : Option Header) (o : Option Record) → header_of P ≡ k → record_of body ≡ o → failing_of P body ≡ None
    → option_or (first_row ((not (has_shape o), fails_by why.Form) ∷ [])) (failing_after P k o) ≡ None → Grows P body
unfolding failing_after
grows_by P body None None head reads none e = cc
grows_by P body (Some h) None head reads none e = cc
grows_by P body None (Some (header_record g)) head reads none e =
    inl (record { head = g; empty = head; reads = reads; holds = was_true _ (all_false ((not (header_holds g), fails_by why.Header) ∷ []) e).0 })
grows_by P body None (Some (reserve_record n)) head reads none e = cc
grows_by P body None (Some (batch_record b)) head reads none e = absurd (never (first_row ((not (has_shape (Some (batch_record b))), fails_by why.Form) ∷ [])) e)
  where
    never : (o : Option Rattle.log_replay.specs.declared.words.Failing.Failing) → option_or o (Some (fails_by why.Order)) ≡ None → ⊥
    never None e = cc
    never (Some f) e = cc
grows_by P body (Some h) (Some (header_record g)) head reads none e = cc
grows_by P body (Some h) (Some (reserve_record n)) head reads none e =
    inr (inl (record { head = h; upto = n; headed = head; reads = reads; holds = reserve_rises P h body n head reads none }))
grows_by P body (Some h) (Some (batch_record b)) head reads none e =
    let new = entry_is_new P h body b head reads none in
    inr (inr (record {
      head = h;
      batch = b;
      leaf = new.0;
      entry = new.1;
      headed = head;
      reads = reads;
      one = new.2;
      is = new.3;
      judged = new.4;
      room = new.5;
      bytes = fits_bytes P h body b new.0 new.1 head reads none new.2 new.3;
    }))

pub grows : (P : Log) (body : List ℕ) → failing_of P body ≡ None → Grows P body
grows P body none = grows_by P body (header_of P) (record_of body) refl refl none none

-- ---- what holds of each well made log

pub record Standing (R : Log) : Type 0 where
  pub empty : header_of R ≡ None → R ≡ []
  pub holds : (h : Header) → header_of R ≡ Some h → header_holds h ≡ true
  pub leaves : length (entries_of R) ≡ length (leaves_of R)
  pub few : length R ≤ 1 + (reserved_of R + length (entries_of R))
  pub entries : (h : Header) → header_of R ≡ Some h → length (entries_of R) ≤ h.max_entries
  pub reserved : (h : Header) → header_of R ≡ Some h → reserved_of R ≤ capacity h.levels
  pub bytes : logged_bytes (entries_of R) ≤ most_logged_bytes

nothing : Standing []
nothing = record {
  empty = λ e. refl;
  holds = λ h e. cc;
  leaves = refl;
  few = omega arith;
  entries = λ h e. cc;
  reserved = λ h e. cc;
  bytes = omega arith;
}

some_same : (a b : Header) (k : Option Header) → k ≡ Some a → k ≡ Some b → a ≡ b
some_same a b k e f = cc

none_some : (h : Header) (k : Option Header) → k ≡ None → k ≡ Some h → ⊥
none_some h k e f = cc

begun : (P : Log) (body : List ℕ) → Standing P → Begins P body → Standing (P ++ body ∷ [])
begun P body was b =
    let none : P ≡ [] = was.empty b.empty in
    let r = header_record b.head in
    let there : header_of (body ∷ []) ≡ Some b.head = ap header_first (ap (λ (o : Option Record). cons_option o []) b.reads) in
    let entries : entries_of ([] ++ body ∷ []) ≡ [] = entries-kept [] body r b.reads refl in
    let leaves : leaves_of ([] ++ body ∷ []) ≡ [] = leaves-more [] body r b.reads in
    let alone : Standing (body ∷ []) = record {
      empty = λ e. absurd (none_some b.head (header_of (body ∷ [])) e there);
      holds = λ h e. subst (λ (k : Header). header_holds k ≡ true) (some_same b.head h (header_of (body ∷ [])) there e) b.holds;
      leaves = ap length entries ∙ ap length (sym leaves);
      few = omega arith;
      entries = λ h e. (let zero = ap length entries in omega (arith, zero));
      reserved = λ h e. (let zero : reserved_of (body ∷ []) ≡ 0 = reserved-more [] body r b.reads in omega (arith, zero));
      bytes = (let zero : logged_bytes (entries_of (body ∷ [])) ≡ 0 = ap logged_bytes entries in omega (arith, zero));
    } in
    subst (λ (X : Log). Standing (X ++ body ∷ [])) (sym none) alone

reserved_says : (h : Header) (last upto : ℕ) → reserve_holds h last upto ≡ true → (last < upto) × (upto ≤ capacity h.levels)
reserved_says h last upto e =
    let a = and_parts _ _ e in
    let b = and_parts _ _ a.0 in
    (ltb-true last upto b.0, leb-true upto (capacity h.levels) a.1)

reserved : (P : Log) (body : List ℕ) → Standing P → Reserves P body → Standing (P ++ body ∷ [])
reserved P body was b =
    let r = reserve_record b.upto in
    let there = header_stays P (body ∷ []) b.head b.headed in
    let entries = entries-kept P body r b.reads refl in
    let leaves : leaves_of (P ++ body ∷ []) ≡ leaves_of P = leaves-more P body r b.reads ∙ append-nil (leaves_of P) in
    let upto : reserved_of (P ++ body ∷ []) ≡ b.upto = reserved-more P body r b.reads in
    let says = reserved_says b.head (reserved_of P) b.upto b.holds in
    let rises = says.0 in
    let within = says.1 in
    let few = was.few in
    let count = ap length entries in
    record {
      empty = λ e. absurd (none_some b.head (header_of (P ++ body ∷ [])) e there);
      holds = λ h e. subst (λ (k : Header). header_holds k ≡ true) (some_same b.head h (header_of (P ++ body ∷ [])) there e) (was.holds b.head b.headed);
      leaves = count ∙ was.leaves ∙ ap length (sym leaves);
      few = omega (arith, few, rises, upto, count, length-append P (body ∷ []));
      entries = λ h e. subst (λ (k : Header). length (entries_of (P ++ body ∷ [])) ≤ k.max_entries) (some_same b.head h (header_of (P ++ body ∷ [])) there e)
          (subst (λ (n : ℕ). n ≤ b.head.max_entries) (sym count) (was.entries b.head b.headed));
      reserved = λ h e. subst (λ (k : Header). reserved_of (P ++ body ∷ []) ≤ capacity k.levels) (some_same b.head h (header_of (P ++ body ∷ [])) there e)
          (subst (λ (n : ℕ). n ≤ capacity b.head.levels) (sym upto) within);
      bytes = subst (λ (E : List Entry). logged_bytes E ≤ most_logged_bytes) (sym entries) was.bytes;
    }

added : (P : Log) (body : List ℕ) → Standing P → Adds P body → Standing (P ++ body ∷ [])
added P body was b =
    let r = batch_record b.batch in
    let there = header_stays P (body ∷ []) b.head b.headed in
    let entries = entries-added P body b.leaf b.batch b.entry b.reads b.one b.is in
    let leaves : leaves_of (P ++ body ∷ []) ≡ leaves_of P ++ b.leaf ∷ [] = leaves-more P body r b.reads ∙ ap (λ xs. leaves_of P ++ xs) b.one in
    let upto : reserved_of (P ++ body ∷ []) ≡ reserved_of P = reserved-more P body r b.reads in
    let few = was.few in
    let room = b.room in
    let bytes = b.bytes in
    let both = was.leaves in
    let count : length (entries_of (P ++ body ∷ [])) ≡ length (entries_of P) + 1 = ap length entries ∙ length-append (entries_of P) (b.entry ∷ []) in
    let leaf_count : length (leaves_of (P ++ body ∷ [])) ≡ length (leaves_of P) + 1 = ap length leaves ∙ length-append (leaves_of P) (b.leaf ∷ []) in
    let sum : logged_bytes (entries_of P ++ b.entry ∷ []) ≡ logged_bytes (entries_of P) + length b.entry.statement.logged =
    fold-append (λ (n : ℕ) (x : Entry). n + length x.statement.logged) 0 (entries_of P) (b.entry ∷ []) in
    record {
      empty = λ e. absurd (none_some b.head (header_of (P ++ body ∷ [])) e there);
      holds = λ h e. subst (λ (k : Header). header_holds k ≡ true) (some_same b.head h (header_of (P ++ body ∷ [])) there e) (was.holds b.head b.headed);
      leaves = omega (arith, both, count, leaf_count);
      few = omega (arith, few, upto, count, length-append P (body ∷ []));
      entries = λ h e. subst (λ (k : Header). length (entries_of (P ++ body ∷ [])) ≤ k.max_entries) (some_same b.head h (header_of (P ++ body ∷ [])) there e) (omega (arith, count, room));
      reserved = λ h e. subst (λ (k : Header). reserved_of (P ++ body ∷ []) ≤ capacity k.levels) (some_same b.head h (header_of (P ++ body ∷ [])) there e)
          (subst (λ (n : ℕ). n ≤ capacity b.head.levels) (sym upto) (was.reserved b.head b.headed));
      bytes = subst (λ (E : List Entry). logged_bytes E ≤ most_logged_bytes) (sym entries) (omega (arith, sum, bytes));
    }

stands_more : (P : Log) (body : List ℕ) → Standing P → failing_of P body ≡ None → Standing (P ++ body ∷ [])
stands_more P body was none = elim (grows P body none) [ inl b ↦ begun P body was b | inr other ↦ elim other [ inl r ↦ reserved P body was r | inr a ↦ added P body was a ] ]

pub stands : (R : Log) → WellMade R → Standing R
stands R w = grow Standing stands_more [] R nothing w

pub entries_are_leaves : EntriesAreLeaves
entries_are_leaves R w = (stands R w).leaves

pub few_records : FewRecords
few_records R h w head = (stands R w).few

pub is_bounded : IsBounded
is_bounded R h w head = let s = stands R w in (s.entries h head, s.reserved h head, s.bytes)

pub has_header : (R : Log) → Standing R → (k : Option Header) → header_of R ≡ k → (R ≡ [] → ⊥) → (h : Header) × (k ≡ Some h) × (header_holds h ≡ true)
has_header R s None e some = absurd (some (s.empty e))
has_header R s (Some h) e some = (h, refl, s.holds h e)

pub header_is_first : HeaderIsFirst
header_is_first body R w = has_header (body ∷ R) (stands (body ∷ R) w) (header_of (body ∷ R)) refl (λ e. cc)

-- ---- no two entries have one id

abbrev Distinct : List Entry → Type 0
Distinct E = (i j : ℕ) (a b : Entry) → slice_get E i ≡ Some a → slice_get E j ≡ Some b → id_of a.statement ≡ id_of b.statement → i ≡ j

-- none of these passes
abbrev NonePass : {A : Type 0} → (A → Bool) → List A → Type 0
NonePass p [] = Unit {0}
NonePass p (x ∷ xs) = (p x ≡ false) × NonePass p xs

passes_not : (t : Bool) (n : ℕ) (rest : Option ℕ) → cond t (Some n) rest ≡ None → (t ≡ false) × (rest ≡ None)
passes_not true n rest e = cc
passes_not false n rest e = (refl, e)

none_pass : {A : Type 0} (p : A → Bool) (n : ℕ) (xs : List A) → position_from p n xs ≡ None → NonePass p xs
none_pass p n [] e = tt
none_pass p n (x ∷ xs) e = let more = passes_not (p x) n (position_from p (n + 1) xs) e in (more.0, none_pass p (n + 1) xs more.1)

pass_at : {A : Type 0} (p : A → Bool) (xs : List A) (i : ℕ) (d : A) → NonePass p xs → i < length xs → p (get_or xs i d) ≡ false
pass_at p [] i d none below = absurd (omega (arith, below))
pass_at p (x ∷ xs) zero d none below = none.0
pass_at p (x ∷ xs) (suc i) d none below = pass_at p xs i d none.1 (omega (arith, below))

not_known : (o : Option ℕ) (j : Judgement) (rule : ℕ) → unwrap_or (option_map Known o) j ≡ Admit rule → o ≡ None
not_known None j rule e = refl
not_known (Some i) j rule e = cc

same_id : (a b : List ℕ) → a ≡ b → bytes_eq a b ≡ false → ⊥
same_id a b e f = let yes = (bytes_eq-Decides a b).1 e in cc

-- an element of a list with one more
of_more : {A : Type 0} (xs : List A) (x y : A) (i : ℕ) → slice_get (xs ++ x ∷ []) i ≡ Some y → ((i < length xs) × (slice_get xs i ≡ Some y)) ⊎ ((i ≡ length xs) × (y ≡ x))
of_more xs x y i e =
    let within = slice_get_within (xs ++ x ∷ []) i y e in
    let at : get_or (xs ++ x ∷ []) i x ≡ y = get_or_from_slice_get (xs ++ x ∷ []) i y x e in
    elim (cases_lt i (length xs)) [
      | inl below ↦ inl (below, slice_get-get_or xs i x below ∙ ap Some (sym (get_or_append_left xs (x ∷ []) x i below) ∙ at))
      | inr past ↦ (let same : i ≡ length xs = omega (arith, within, past, length-append xs (x ∷ [])) in
          inr (same, sym at ∙ ap (λ n. get_or (xs ++ x ∷ []) n x) same ∙ get_or-append_seam xs x [] x))
    ]

-- an entry that isn't there yet has another id than each that is
other_id : (E : List Entry) (e : Entry) (i : ℕ) (a : Entry) → place_of E e.statement ≡ None → slice_get E i ≡ Some a → id_of a.statement ≡ id_of e.statement → ⊥
other_id E e i a none there same =
    let p : Entry → Bool = λ x. bytes_eq (id_of x.statement) (id_of e.statement) in
    let all = none_pass p 0 E (sym (position_from-zero p E) ∙ none) in
    let below = slice_get_within E i a there in
    let is : get_or E i e ≡ a = get_or_from_slice_get E i a e there in
    same_id (id_of a.statement) (id_of e.statement) same (ap p (sym is) ∙ pass_at p E i e all below)

distinct_more : (E : List Entry) (e : Entry) → Distinct E → place_of E e.statement ≡ None → Distinct (E ++ e ∷ [])
distinct_more E e was none i j a b ai bj same =
    elim (of_more E e a i ai) [
      | inl x ↦ elim (of_more E e b j bj) [
        | inl y ↦ was i j a b x.1 y.1 same
        | inr y ↦ absurd (other_id E e i a none x.1 (same ∙ ap (λ (z : Entry). id_of z.statement) y.1))
      ]
      | inr x ↦ elim (of_more E e b j bj) [
        | inl y ↦ absurd (other_id E e j b none y.1 (sym same ∙ ap (λ (z : Entry). id_of z.statement) x.1))
        | inr y ↦ x.0 ∙ sym y.0
      ]
    ]

distinct_step : (P : Log) (body : List ℕ) → Distinct (entries_of P) → failing_of P body ≡ None → Distinct (entries_of (P ++ body ∷ []))
distinct_step P body was none = elim (grows P body none) [
  | inl b ↦ subst Distinct (sym (entries-kept P body (header_record b.head) b.reads refl)) was
  | inr other ↦ elim other [
    | inl r ↦ subst Distinct (sym (entries-kept P body (reserve_record r.upto) r.reads refl)) was
    | inr a ↦ subst Distinct (sym (entries-added P body a.leaf a.batch a.entry a.reads a.one a.is))
        (distinct_more (entries_of P) a.entry was (not_known (place_of (entries_of P) a.entry.statement) _ a.entry.rule a.judged))
  ]
]

pub no_id_twice : NoIdTwice
no_id_twice R i j a b w =
    grow (λ (P : Log). Distinct (entries_of P)) distinct_step [] R (λ i j a b x y e. cc) w i j a b
