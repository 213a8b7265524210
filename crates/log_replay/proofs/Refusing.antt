-- The first rule that fails by what is kept is that of the log.
use Rattle.std.proofs.Common.{◌≡◌, ℕ, ◌+◌, List, [], ◌∷◌, ◌++◌, Bool, false, ◌==◌, not, Option, None, Some, refl, sym, ap, ◌∙◌, length, length-append, arith}
use Rattle.std.specs.Prelude.{map, option_map}
use Rattle.std.specs.Option.{option_or}
use Rattle.std.proofs.lemmas.Bool.{ne_eqb}
use Rattle.std.proofs.lemmas.List.{length-map, map-append}
use Rattle.sha2.specs.Sha256.{sha256}
use Rattle.cbor_core.specs.Rows.{first_row}
use Rattle.hss_keys.specs.Functions.{flat_index, hss_verifies}
use Rattle.merkle_tree.specs.Mth.{leaf_hash, mth, tree_root}
use Rattle.statement.specs.Said.{id_of}
use Rattle.policy_rules.specs.declared.documents.Policy.{Policy}
use Rattle.log_replay.specs.declared.parts.Header.{Header}
use Rattle.log_replay.specs.declared.parts.BatchParts.{BatchParts}
use Rattle.log_replay.specs.declared.words.Judgement.{Judgement}
use Rattle.log_replay.specs.declared.words.Failing.{Failing}
use Rattle.log_replay.specs.declared.words.Why.TheVariants as why
use Rattle.receipts.specs.Signed.{signed_text}
use Rattle.log_replay.specs.Records.{Log, Record, Entry, header_record, reserve_record, batch_record, record_of, header_of, leaves_of, entries_of, entry_of, reserved_of, used_of}
use Rattle.log_replay.specs.Judging.{judge, in_force, last_moment}
use Rattle.log_replay.specs.Kept.{Kept, StateOf}
use Rattle.log_replay.specs.KeptRows.{kept_entry_rows, kept_entry_failing, kept_text, kept_batch_rows, kept_batch_failing, failing_behind, failing_first, failing_with, failing_kept}
use Rattle.log_replay.specs.Laws.{FailingIsFailing}
use Rattle.log_replay.specs.WellMade.{fails_by, failing_after, has_shape, entry_rows, entry_failing, reserve_holds, index_holds, text_signed, batch_rows, batch_failing}
use Rattle.log_replay.proofs.Lookups.{judged_kept, in_force_now}

abbrev pub RootOfLeaves : Type 0
RootOfLeaves = (entries : List (List ℕ)) → mth entries ≡ tree_root (map leaf_hash entries)

module _ (given : RootOfLeaves) (K : Kept) (R : Log) (h : Header) (p : Policy) (was : StateOf K R) (head : header_of R ≡ Some h) (now : K.policy ≡ Some p) where
  abbrev E : List Entry
  E = entries_of R

  rows_are_rows : (e : Entry) → kept_entry_failing h p K (Some e) ≡ first_row (entry_rows h E e)
  rows_are_rows e =
      let count : length K.ids ≡ length E = ap length was.ids ∙ length-map E (λ (x : Entry). id_of x.statement) in
      let len = length e.statement.logged in
      ap (λ (j : Judgement). first_row (kept_entry_rows h j K.last (length K.ids) K.logged e.at e.rule len))
      (judged_kept h E p K.ids K.facts K.last e.statement e.at was.ids was.facts was.last (in_force_now K R h p was head now))
      ∙ ap (λ n. first_row (kept_entry_rows h (judge h E e.statement e.at) n (length K.ids) K.logged e.at e.rule len)) was.last
      ∙ ap (λ n. first_row (kept_entry_rows h (judge h E e.statement e.at) (last_moment E) n K.logged e.at e.rule len)) count
      ∙ ap (λ n. first_row (kept_entry_rows h (judge h E e.statement e.at) (last_moment E) (length E) n e.at e.rule len)) was.logged

  entry_is_entry : (o : Option Entry) → kept_entry_failing h p K o ≡ entry_failing h E o
  entry_is_entry None = refl
  entry_is_entry (Some e) = rows_are_rows e

  text_is_text : (leaf : List ℕ) → kept_text h K.leaves (leaf_hash leaf) ≡ text_signed h (leaves_of R ++ leaf ∷ [])
  text_is_text leaf =
      let L = leaves_of R in
      let leaves = was.leaves in
      let count : length K.leaves + 1 ≡ length (L ++ leaf ∷ []) = omega (arith, ap length leaves, length-map L leaf_hash, length-append L (leaf ∷ [])) in
      let root : tree_root (K.leaves ++ leaf_hash leaf ∷ []) ≡ mth (L ++ leaf ∷ []) =
      ap (λ xs. tree_root (xs ++ leaf_hash leaf ∷ [])) leaves ∙ ap tree_root (sym (map-append leaf_hash L (leaf ∷ []))) ∙ sym (given (L ++ leaf ∷ [])) in
      ap (λ n. signed_text h.name (sha256 h.key) n (tree_root (K.leaves ++ leaf_hash leaf ∷ []))) count
      ∙ ap (λ r. signed_text h.name (sha256 h.key) (length (L ++ leaf ∷ [])) r) root

  batch_rows_are_rows : (leaf signature : List ℕ) (index : ℕ) → let b : BatchParts = record { entries = leaf ∷ []; index = index; signature = signature } in
      first_row (kept_batch_rows h K.reserved K.used K.leaves b (leaf_hash leaf)) ≡ first_row (batch_rows h R b)
  batch_rows_are_rows leaf signature index =
      let rows : ℕ → ℕ → List ℕ → Option Failing = λ reserved used text.
      first_row ((not (index_holds reserved used index (flat_index h.levels signature)), fails_by why.Index)
      ∷ (not (hss_verifies h.key signature text), fails_by why.Signature) ∷ []) in
      ap (λ n. rows n K.used (kept_text h K.leaves (leaf_hash leaf))) was.reserved
      ∙ ap (λ n. rows (reserved_of R) n (kept_text h K.leaves (leaf_hash leaf))) was.used
      ∙ ap (rows (reserved_of R) (used_of R)) (text_is_text leaf)

  or_none : {A : Type 0} (o : Option A) → o ≡ option_or o None
  or_none None = refl
  or_none (Some x) = refl

  two_not_one : (n : ℕ) → (n + 2 == 1) ≡ false
  two_not_one n = ne_eqb (n + 2) 1 (λ e. absurd (omega (arith, e)))

  many : (xs : List (List ℕ)) (n : ℕ) → length xs ≡ n + 2 → (length xs == 1) ≡ false
  many xs n e = ap (λ k. k == 1) e ∙ two_not_one n

  abbrev shaped : Option Record → Option Failing
  shaped o = option_or (first_row ((not (has_shape o), fails_by why.Form) ∷ [])) (failing_after R (Some h) o)

  batch_by : (entries : List (List ℕ)) (index : ℕ) (signature : List ℕ) → let b : BatchParts = record { entries = entries; index = index; signature = signature } in
      kept_batch_failing h p K b entries ≡ shaped (Some (batch_record b))
  unfolding failing_after
  batch_by [] index signature = refl
  batch_by (leaf ∷ []) index signature =
      let b : BatchParts = record { entries = leaf ∷ []; index = index; signature = signature } in
      ap (λ o. option_or o (first_row (kept_batch_rows h K.reserved K.used K.leaves b (leaf_hash leaf)))) (entry_is_entry (entry_of leaf) ∙ or_none (entry_failing h E (entry_of leaf)))
      ∙ ap (λ (o : Option Failing). option_or (option_or (entry_failing h E (entry_of leaf)) None) o) (batch_rows_are_rows leaf signature index)
  batch_by (leaf ∷ other ∷ more) index signature =
      sym (ap (λ (t : Bool). option_or (first_row ((not t, fails_by why.Form) ∷ [])) (batch_failing h R (record { entries = leaf ∷ other ∷ more; index = index; signature = signature })))
      (many (leaf ∷ other ∷ more) (length more) (omega arith)))

  pub by_record : (o : Option Record) → failing_behind h p K o ≡ shaped o
  unfolding failing_behind failing_after
  by_record None = refl
  by_record (Some (header_record new)) = refl
  by_record (Some (reserve_record upto)) = ap (λ n. first_row ((not (reserve_holds h n upto), fails_by why.Reserve) ∷ [])) was.reserved
  by_record (Some (batch_record b)) = batch_by b.entries b.index b.signature

pub by_first : (R : Log) (o : Option Record) → failing_first o ≡ option_or (first_row ((not (has_shape o), fails_by why.Form) ∷ [])) (failing_after R None o)
unfolding failing_first failing_after
by_first R None = refl
by_first R (Some (header_record h)) = refl
by_first R (Some (reserve_record n)) = refl
by_first R (Some (batch_record b)) = refl

abbrev tried : Log → Option Header → Option Record → Option Failing
tried R k o = option_or (first_row ((not (has_shape o), fails_by why.Form) ∷ [])) (failing_after R k o)

by_header : RootOfLeaves → (K : Kept) (R : Log) (o : Option Record) → StateOf K R → (k : Option Header) → header_of R ≡ k → failing_kept K o ≡ tried R k o
by_header given K R o was None head =
    ap (λ (x : Option Header). failing_with x K.policy K o) (was.header ∙ head) ∙ by_first R o
by_header given K R o was (Some h) head =
    let now : K.policy ≡ Some (in_force h (entries_of R)) = was.policy ∙ ap (option_map (λ (x : Header). in_force x (entries_of R))) head in
    ap (λ (x : Option Header). failing_with x K.policy K o) (was.header ∙ head)
    ∙ ap (λ (x : Option Policy). failing_with (Some h) x K o) now
    ∙ by_record given K R h (in_force h (entries_of R)) was head now o

pub failing_is_failing : RootOfLeaves → FailingIsFailing
failing_is_failing given K R body was = by_header given K R (record_of body) was (header_of R) refl
