-- Batches of a well made log: their indices rise, below the reservation.
use Rattle.std.proofs.Common.{◌≡◌, ℕ, ◌+◌, ◌<◌, ◌≤◌, ◌⊎◌, inl, inr, List, [], ◌∷◌, ◌++◌, Bool, true, false, ◌&&◌, nat_lt, nat_le, not, Option, None, Some, refl, sym, ap, ◌∙◌, subst, arith, append_assoc, append-nil}
use Rattle.std.specs.Prelude.{Contains, fold, max}
use Rattle.std.specs.Option.{option_or}
use Rattle.std.specs.List.{cons_option}
use Rattle.std.proofs.lemmas.Bool.Decides.{nat_tests}
use Rattle.std.proofs.lemmas.List.Sums.{fold-append}
use Rattle.std.proofs.lemmas.List.Elements.{Contains-push_cases, Contains-append_cases, filter_map-append}
use Rattle.cbor_core.specs.Rows.{first_row}
use Rattle.cbor_core.specs.Exact.{TextIsSpelled}
use Rattle.cbor_core.specs.Decoding.{SpelledIsItem}
use Rattle.hss_keys.specs.Levels.{capacity}
use Rattle.log_replay.specs.declared.parts.Header.{Header}
use Rattle.log_replay.specs.declared.parts.BatchParts.{BatchParts}
use Rattle.log_replay.specs.declared.words.Failing.{Failing}
use Rattle.log_replay.specs.declared.words.Why.TheVariants as why
use Rattle.log_replay.specs.Records.{Log, Record, header_record, reserve_record, batch_record, record_of, records_of, header_of, reserved_of, reserved_after, used_of, used_after}
use Rattle.log_replay.specs.WellMade.{WellMadeAfter, failing_of, failing_by, failing_after, fails_by, has_shape}
use Rattle.log_replay.specs.Growth.{ReserveRises, IndexRises, EntriesAreLeaves}
use Rattle.log_replay.specs.Laws.{OneLess}
use Rattle.registrar.specs.Histories.{BatchAt}

-- the laws that histories rest on
pub record Laws : Type 0 where
  pub reserve : ReserveRises
  pub index : IndexRises
  pub leaves : EntriesAreLeaves
  pub less : OneLess
  pub item : SpelledIsItem
  pub text : TextIsSpelled

and_true : (a b : Bool) → a && b ≡ true → (a ≡ true) × (b ≡ true)
and_true true b e = (refl, e)
and_true false b e = cc

never : (o : Option Failing) (f : Failing) → option_or o (Some f) ≡ None → ⊥
never None f e = cc
never (Some g) f e = cc

-- ---- what a log says with one record more

records-more : (R : Log) (body : List ℕ) (r : Record) → record_of body ≡ Some r → records_of (R ++ body ∷ []) ≡ records_of R ++ r ∷ []
records-more R body r e = filter_map-append record_of R (body ∷ []) ∙ ap (λ o. records_of R ++ cons_option o []) e

pub reserved-more : (R : Log) (body : List ℕ) (r : Record) → record_of body ≡ Some r → reserved_of (R ++ body ∷ []) ≡ reserved_after (reserved_of R) r
reserved-more R body r e = ap (fold reserved_after 0) (records-more R body r e) ∙ fold-append reserved_after 0 (records_of R) (r ∷ [])

used-more : (R : Log) (body : List ℕ) (r : Record) → record_of body ≡ Some r → used_of (R ++ body ∷ []) ≡ used_after (used_of R) r
used-more R body r e = ap (fold used_after 0) (records-more R body r e) ∙ fold-append used_after 0 (records_of R) (r ∷ [])

-- ---- what a record on which no rule fails says

-- it can be read
readable_by : (R : Log) (body : List ℕ) (o : Option Record) → record_of body ≡ o → failing_by R o ≡ None → (r : Record) × (record_of body ≡ Some r)
readable_by R body None is e = cc
readable_by R body (Some r) is e = (r, is)

pub readable : (R : Log) (body : List ℕ) → failing_of R body ≡ None → (r : Record) × (record_of body ≡ Some r)
readable R body none = readable_by R body (record_of body) refl none

-- a Reserve or a Batch stands behind a header
batch_headed : (R : Log) (b : BatchParts) (k : Option Header) → header_of R ≡ k
    → option_or (first_row ((not (has_shape (Some (batch_record b))), fails_by why.Form) ∷ [])) (failing_after R k (Some (batch_record b))) ≡ None → (h : Header) × (header_of R ≡ Some h)
unfolding failing_after
batch_headed R b None is e = absurd (never (first_row ((not (has_shape (Some (batch_record b))), fails_by why.Form) ∷ [])) (fails_by why.Order) e)
batch_headed R b (Some h) is e = (h, is)

reserve_headed : (R : Log) (upto : ℕ) (k : Option Header) → header_of R ≡ k
    → option_or (first_row ((not (has_shape (Some (reserve_record upto))), fails_by why.Form) ∷ [])) (failing_after R k (Some (reserve_record upto))) ≡ None → (h : Header) × (header_of R ≡ Some h)
unfolding failing_after
reserve_headed R upto None is e = cc
reserve_headed R upto (Some h) is e = (h, is)

pub batch_fits : Laws → (R : Log) (body : List ℕ) (b : BatchParts) → record_of body ≡ Some (batch_record b) → failing_of R body ≡ None → (used_of R ≤ b.index) × (b.index < reserved_of R)
batch_fits laws R body b reads none =
    let h = batch_headed R b (header_of R) refl (subst (λ (o : Option Record). failing_by R o ≡ None) reads none) in
    laws.index R h.0 body b h.1 reads none

pub reserve_fits : Laws → (R : Log) (body : List ℕ) (upto : ℕ) → record_of body ≡ Some (reserve_record upto) → failing_of R body ≡ None → reserved_of R < upto
reserve_fits laws R body upto reads none =
    let h = reserve_headed R upto (header_of R) refl (subst (λ (o : Option Record). failing_by R o ≡ None) reads none) in
    let holds = laws.reserve R h.0 body upto h.1 reads none in
    let one = and_true (nat_lt (reserved_of R) upto && nat_le upto (reserved_of R + h.0.block)) (nat_le upto (capacity h.0.levels)) holds in
    let two = and_true (nat_lt (reserved_of R) upto) (nat_le upto (reserved_of R + h.0.block)) one.0 in
    grind (arith, nat_tests)

-- neither number falls
pub record Rises (R : Log) (body : List ℕ) : Type 0 where
  pub reserved : reserved_of R ≤ reserved_of (R ++ body ∷ [])
  pub used : used_of R ≤ used_of (R ++ body ∷ [])

rises_by : Laws → (R : Log) (body : List ℕ) (r : Record) → record_of body ≡ Some r → failing_of R body ≡ None → Rises R body
rises_by laws R body (header_record h) reads none =
    let more = reserved-more R body (header_record h) reads in
    let used = used-more R body (header_record h) reads in
    record { reserved = omega (arith, more); used = omega (arith, used) }
rises_by laws R body (reserve_record upto) reads none =
    let more = reserved-more R body (reserve_record upto) reads in
    let fits = reserve_fits laws R body upto reads none in
    let used = used-more R body (reserve_record upto) reads in
    record { reserved = omega (arith, more, fits); used = omega (arith, used) }
rises_by laws R body (batch_record b) reads none =
    let more = reserved-more R body (batch_record b) reads in
    let used = used-more R body (batch_record b) reads in
    record { reserved = omega (arith, more); used = omega (arith, used) }

pub rises : Laws → (R : Log) (body : List ℕ) → failing_of R body ≡ None → Rises R body
rises laws R body none = let r = readable R body none in rises_by laws R body r.0 r.1 none

reserved_rises : Laws → (R xs : Log) → WellMadeAfter R xs → reserved_of R ≤ reserved_of (R ++ xs)
reserved_rises laws R [] made = let e = ap reserved_of (append-nil R) in omega (arith, e)
reserved_rises laws R (x ∷ xs) made =
    let one = (rises laws R x made.0).reserved in
    let rest = reserved_rises laws (R ++ x ∷ []) xs made.1 in
    let e = ap reserved_of (append_assoc R (x ∷ []) xs) in
    omega (arith, one, rest, e)

-- ---- Batches of a well made log

-- a record of a list of one more is the first, or one of the others
first_or_later : (x : List ℕ) (xs : Log) (body : List ℕ) → Contains (x ∷ xs) body → (x ≡ body) ⊎ Contains xs body
first_or_later x xs body there =
    elim (Contains-append_cases (x ∷ []) xs body there) [
      | inl front ↦ elim (Contains-push_cases [] x body front) [ inl none ↦ absurd (omega (arith, none.1)) | inr same ↦ inl same ]
      | inr later ↦ inr later
    ]

-- the body that stands here is a Batch at this index
here : Laws → (R : Log) (x body : List ℕ) (i : ℕ) → x ≡ body → failing_of R x ≡ None → BatchAt i body → (used_of R ≤ i) × (i < reserved_of R) × (used_of (R ++ x ∷ []) ≡ i + 1)
here laws R x body i same none is =
    let b : BatchParts = record { entries = is.0; index = i; signature = is.1.0 } in
    let reads : record_of x ≡ Some (batch_record b) = ap record_of same ∙ is.1.1 in
    let fits = batch_fits laws R x b reads none in
    let low : used_of R ≤ i = fits.0 in
    let used : used_of (R ++ x ∷ []) ≡ max (used_of R) (i + 1) = used-more R x (batch_record b) reads in
    (low, fits.1, omega (arith, used, low))

pub within : Laws → (R xs : Log) (body : List ℕ) (i : ℕ) → WellMadeAfter R xs → Contains xs body → BatchAt i body → (used_of R ≤ i) × (i < reserved_of (R ++ xs))
within laws R [] body i made there is = absurd (omega (arith, there.1))
within laws R (x ∷ xs) body i made there is =
    let e = ap reserved_of (append_assoc R (x ∷ []) xs) in
    let one = rises laws R x made.0 in
    elim (first_or_later x xs body there) [
      | inl same ↦ (
          let h = here laws R x body i same made.0 is in
          let more = reserved_rises laws (R ++ x ∷ []) xs made.1 in
          let up = one.reserved in
          (h.0, omega (arith, h.1, more, e, up)))
      | inr later ↦ (let h = within laws (R ++ x ∷ []) xs body i made.1 later is in let up = one.used in (omega (arith, h.0, up), omega (arith, h.1, e)))
    ]

pub unique : Laws → (R xs : Log) (a b : List ℕ) (i : ℕ) → WellMadeAfter R xs → Contains xs a → Contains xs b → BatchAt i a → BatchAt i b → a ≡ b
unique laws R [] a b i made there other is also = absurd (omega (arith, there.1))
unique laws R (x ∷ xs) a b i made there other is also =
    elim (first_or_later x xs a there) [
      | inl same ↦ elim (first_or_later x xs b other) [
        | inl too ↦ sym same ∙ too
        | inr later ↦ (let h = here laws R x a i same made.0 is in let k = within laws (R ++ x ∷ []) xs b i made.1 later also in absurd (omega (arith, h.2, k.0)))
      ]
      | inr later ↦ elim (first_or_later x xs b other) [
        | inl too ↦ (let h = here laws R x b i too made.0 also in let k = within laws (R ++ x ∷ []) xs a i made.1 later is in absurd (omega (arith, h.2, k.0)))
        | inr both ↦ unique laws (R ++ x ∷ []) xs a b i made.1 later both is also
      ]
    ]
