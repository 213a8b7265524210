-- An entry of a well made log, when it was judged, and what was signed with it.
use Rattle.std.proofs.Common.{◌≡◌, ℕ, ◌+◌, true, not, List, [], ◌∷◌, ◌++◌, length, take, drop, Option, None, Some, sym, ap, ◌∙◌, subst, arith}
use Rattle.std.specs.Prelude.{slice_get, option_map, filter_map, flat_map}
use Rattle.std.specs.Option.{option_or}
use Rattle.std.proofs.lemmas.Option.{slice_get_within}
use Rattle.std.proofs.lemmas.List.Elements.{filter_map-append}
use Rattle.std.proofs.lemmas.Grind.{flat_map-append}
use Rattle.cbor_core.specs.Rows.{first_row}
use Rattle.hss_keys.specs.Functions.{hss_verifies}
use Rattle.statement.specs.Said.{id_of}
use Rattle.log_replay.specs.declared.parts.Header.{Header}
use Rattle.log_replay.specs.declared.parts.BatchParts.{BatchParts}
use Rattle.log_replay.specs.declared.words.Failing.{Failing}
use Rattle.log_replay.specs.declared.words.Judgement.TheVariants.{Admit}
use Rattle.log_replay.specs.declared.words.Why.TheVariants as why
use Rattle.log_replay.specs.Records.{Log, Record, Entry, batch_record, record_of, records_of, header_of, leaves_of, entries_in, entries_of, entry_of}
use Rattle.log_replay.specs.Judging.{judge}
use Rattle.log_replay.specs.WellMade.{WellMade, failing_of, failing_by, failing_after, fails_by, has_shape, entries_failing, batch_rows, text_signed}
use Rattle.log_replay.specs.Growth.{HeaderStays, HeaderIsFirst, EntryIsNew, NoIdTwice, EntriesAreLeaves, StandsAt, EntryHasHome}
use Rattle.log_replay.specs.Laws.{OneLess, FrontsAreWellMade}
use Rattle.log_replay.proofs.Fitting.{all_false, was_true, second_none, later_none}
use Rattle.receipt_laws.specs.Standing.{WasAdmitted, EntriesWereAdmitted}
use Rattle.receipt_laws.proofs.Lists.{some_is, one_is, take_more, split_at, take_front, at_seam}

never_some : (o : Option Failing) (f : Failing) → option_or o (Some f) ≡ None → ⊥
never_some None f e = cc
never_some (Some x) f e = cc

-- ---- a Batch that fails no rule

by_record : (P : Log) (body : List ℕ) (b : BatchParts) → record_of body ≡ Some (batch_record b) → failing_of P body ≡ None → failing_by P (Some (batch_record b)) ≡ None
by_record P body b reads none = subst (λ (o : Option Record). failing_by P o ≡ None) reads none

-- behind no records it would
no_first : (body : List ℕ) (b : BatchParts) → record_of body ≡ Some (batch_record b) → failing_of [] body ≡ None → ⊥
unfolding failing_after
no_first body b reads none = never_some (first_row ((not (has_shape (Some (batch_record b))), fails_by why.Form) ∷ [])) (fails_by why.Order) (by_record [] body b reads none)

-- so there is a header
has_header : HeaderIsFirst → (P : Log) (body : List ℕ) (b : BatchParts) → WellMade P → record_of body ≡ Some (batch_record b) → failing_of P body ≡ None → (h : Header) × (header_of P ≡ Some h)
has_header first [] body b w reads none = absurd (no_first body b reads none)
has_header first (x ∷ P) body b w reads none = let found = first x P w in (found.0, found.1)

-- and its key verifies the signature
is_signed : (P : Log) (h : Header) (body : List ℕ) (b : BatchParts) → header_of P ≡ Some h → record_of body ≡ Some (batch_record b) → failing_of P body ≡ None
    → hss_verifies h.key b.signature (text_signed h (leaves_of P ++ b.entries)) ≡ true
unfolding failing_after
is_signed P h body b headed reads none =
    let after : failing_after P (Some h) (Some (batch_record b)) ≡ None = (later_none P h body (batch_record b) headed reads none).1 in
    let rows = all_false (batch_rows h P b) (second_none (entries_failing h (entries_of P) b.entries) (first_row (batch_rows h P b)) after) in
    was_true _ rows.1.0

-- ---- the log before it, and with it

leaves_split : (P S : Log) (body leaf : List ℕ) (b : BatchParts) → record_of body ≡ Some (batch_record b) → b.entries ≡ leaf ∷ [] → leaves_of (P ++ body ∷ S) ≡ leaves_of P ++ leaf ∷ leaves_of S
leaves_split P S body leaf b reads one =
    ap (flat_map entries_in) (filter_map-append record_of P (body ∷ S))
    ∙ flat_map-append entries_in (records_of P) (records_of (body ∷ S))
    ∙ ap (λ (xs : List (List ℕ)). leaves_of P ++ xs) (leaves_first reads)
  where
    leaves_first : record_of body ≡ Some (batch_record b) → leaves_of (body ∷ S) ≡ leaf ∷ leaves_of S
    leaves_first r = ap (λ (o : Option Record). flat_map entries_in (Rattle.std.specs.List.cons_option o (records_of S))) r ∙ ap (λ (xs : List (List ℕ)). xs ++ leaves_of S) one

module _ (home : EntryHasHome) (fronts : FrontsAreWellMade) (less : OneLess) (first : HeaderIsFirst) (stays : HeaderStays) (new : EntryIsNew) (ids : NoIdTwice) (both : EntriesAreLeaves) where
  -- an entry with these bytes is the same one
  same_place : (R : Log) (i m : ℕ) (leaf : List ℕ) (e : Entry) → WellMade R → slice_get (entries_of R) i ≡ Some e → entry_of leaf ≡ Some e → slice_get (leaves_of R) m ≡ Some leaf → i ≡ m
  same_place R i m leaf e w at reads there =
      let below = slice_get_within (leaves_of R) m leaf there in
      let other = home R m w (omega (arith, below, both R w)) in
      let st = other.5 in
      let same : other.2 ≡ leaf = some_is other.2 leaf (sym st.bytes ∙ there) in
      let entry : e ≡ other.4 = some_is e other.4 (sym reads ∙ ap entry_of (sym same) ∙ st.entry_reads) in
      ids R i m e other.4 w at st.entry (ap (λ (x : Entry). id_of x.statement) entry)

  admitted : (R : Log) (i n : ℕ) (body leaf : List ℕ) (b : BatchParts) (e : Entry) → WellMade R → StandsAt R i n body leaf b e → (h : Header) × WasAdmitted R i n body leaf h b e
  admitted R i n body leaf b e w st =
      let P : Log = take n R in
      let S : Log = drop (n + 1) R in
      let before : WellMade P = fronts R n w in
      let until : WellMade (P ++ body ∷ []) = subst WellMade (take_more R n body st.there) (fronts R (n + 1) w) in
      let none : failing_of P body ≡ None = less P body until in
      let head = has_header first P body b before st.reads none in
      let h = head.0 in
      let news = new P h body b head.1 st.reads none in
      let same_leaf : news.0 ≡ leaf = one_is news.0 leaf (sym news.2 ∙ st.alone) in
      let same_entry : news.1 ≡ e = some_is news.1 e (sym news.3 ∙ ap entry_of same_leaf ∙ st.entry_reads) in
      let judged : judge h (entries_of P) e.statement e.at ≡ Admit e.rule = subst (λ (x : Entry). judge h (entries_of P) x.statement x.at ≡ Admit x.rule) same_entry news.4 in
      let whole : R ≡ P ++ body ∷ S = split_at R n body st.there in
      let leaves : leaves_of R ≡ leaves_of P ++ leaf ∷ leaves_of S = ap leaves_of whole ∙ leaves_split P S body leaf b st.reads st.alone in
      let there : slice_get (leaves_of R) (length (leaves_of P)) ≡ Some leaf = ap (λ (xs : List (List ℕ)). slice_get xs (length (leaves_of P))) leaves ∙ at_seam (leaves_of P) leaf (leaves_of S) in
      let place : i ≡ length (leaves_of P) = same_place R i (length (leaves_of P)) leaf e w st.entry st.entry_reads there in
      let front : take i (leaves_of R) ≡ leaves_of P = (λ t. take (place t) (leaves t)) ∙ take_front (leaves_of P) (leaf ∷ leaves_of S) in
      let entries : entries_of R ≡ entries_of P ++ filter_map entry_of (leaf ∷ leaves_of S) = ap (filter_map entry_of) leaves ∙ filter_map-append entry_of (leaves_of P) (leaf ∷ leaves_of S) in
      let entries_front : take i (entries_of R) ≡ entries_of P = (λ t. take ((place ∙ sym (both P before)) t) (entries t)) ∙ take_front (entries_of P) (filter_map entry_of (leaf ∷ leaves_of S)) in
      let signed = is_signed P h body b head.1 st.reads none in
      let text : leaves_of P ++ b.entries ≡ take (i + 1) (leaves_of R) = (λ t. sym front t ++ st.alone t) ∙ sym (take_more (leaves_of R) i leaf st.bytes) in (
        h,
        record {
          stands = st;
          headed = ap header_of whole ∙ stays P (body ∷ S) h head.1;
          leaves = sym front;
          entries = sym entries_front;
          judged = ap (option_map (λ (k : Header). judge k (entries_of P) e.statement e.at)) head.1 ∙ ap Some judged;
          signed = subst (λ (xs : List (List ℕ)). hss_verifies h.key b.signature (text_signed h xs) ≡ true) text signed;
        },
      )

  pub were_admitted : EntriesWereAdmitted
  were_admitted R i w below =
      let found = home R i w below in
      let a = admitted R i found.0 found.1 found.2 found.3 found.4 w found.5 in
      (found.0, found.1, found.2, a.0, found.3, found.4, a.1)
