-- A record that fails no rule leads from what is kept of a log to what is kept of the log with it.
use Rattle.std.proofs.Common.{◌≡◌, ℕ, ◌+◌, ◌≤◌, max, List, [], ◌∷◌, ◌++◌, Bool, true, false, not, Option, None, Some, refl, sym, ap, ◌∙◌, length, length-append, append-nil, arith, subst}
use Rattle.std.specs.Prelude.{map, filter_map, fold, flat_map, option_map}
use Rattle.std.specs.Option.{option_or}
use Rattle.std.specs.List.{cons_option}
use Rattle.std.proofs.lemmas.Bool.{leb-true, eqb-true, and_parts}
use Rattle.std.proofs.lemmas.List.{map-append}
use Rattle.std.proofs.lemmas.List.Sums.{fold-append}
use Rattle.cbor_core.specs.Rows.{first_row}
use Rattle.hss_keys.specs.Functions.{flat_index}
use Rattle.merkle_tree.specs.Mth.{leaf_hash}
use Rattle.policy_rules.specs.declared.documents.Policy.{Policy}
use Rattle.policy_rules.specs.declared.facts.Facts.{Facts}
use Rattle.statement.specs.Said.{id_of}
use Rattle.log_replay.specs.declared.parts.Header.{Header}
use Rattle.log_replay.specs.declared.parts.BatchParts.{BatchParts}
use Rattle.log_replay.specs.declared.words.Failing.{Failing}
use Rattle.log_replay.specs.declared.words.Why.TheVariants as why
use Rattle.log_replay.specs.Records.{Log, Record, Entry, header_record, reserve_record, batch_record, record_of, records_of, header_of, header_first, leaves_of, entries_of, entry_of, reserved_after, used_of, used_after, entries_in, homes_of, logged_bytes}
use Rattle.log_replay.specs.Judging.{in_force, policy_with, last_moment, facts_of, facts_before}
use Rattle.log_replay.specs.Kept.{Kept, StateOf, first_kept, with_reserve, with_batch}
use Rattle.log_replay.specs.KeptRows.{kept_entry_failing, kept_batch_rows, kept_batch_failing, failing_behind, failing_first, with_entry, with_entries, with_record}
use Rattle.log_replay.specs.Laws.{RecordIsAdded}
use Rattle.log_replay.specs.WellMade.{WellMade, failing_by, failing_of, failing_after, fails_by, has_shape, index_holds}
use Rattle.log_replay.proofs.More.{leaves-more, reserved-more, used-more, entries-reserve, entries-batch, header_more, homes-more, in_force-more}
use Rattle.log_replay.proofs.Prefixes.{well}
use Rattle.log_replay.proofs.Rows.{all_false, first_none, second_none}
use Rattle.log_replay.proofs.Refusing.{RootOfLeaves, by_record, by_first}

module _ (K : Kept) (R : Log) (h : Header) (was : StateOf K R) (head : header_of R ≡ Some h) (body : List ℕ) (sound : WellMade (R ++ body ∷ [])) where
  abbrev E : List Entry
  E = entries_of R

  abbrev more : Log
  more = R ++ body ∷ []

  same_header : header_of more ≡ header_of R
  same_header = header_more R (body ∷ []) h head ∙ sym head

  policy_now : K.policy ≡ Some (in_force h E)
  policy_now = was.policy ∙ ap (option_map (λ (k : Header). in_force k E)) head

  pub reserve_added : (upto : ℕ) → record_of body ≡ Some (reserve_record upto) → StateOf (with_reserve K upto) more
  reserve_added upto reads =
      let count = was.records in
      let entries : E ≡ entries_of more = sym (entries-reserve R body upto reads) in
      record {
        sound = sound;
        records = omega (arith, count, length-append R (body ∷ []));
        header = was.header ∙ sym same_header;
        policy = policy_now ∙ ap (λ (F : List Entry). Some (in_force h F)) entries ∙ ap (option_map (λ (k : Header). in_force k (entries_of more))) (sym head ∙ sym same_header);
        reserved = sym (reserved-more R body (reserve_record upto) reads);
        used = was.used ∙ sym (used-more R body (reserve_record upto) reads);
        ids = was.ids ∙ ap (map (λ (e : Entry). id_of e.statement)) entries;
        homes = was.homes ∙ sym (homes-more R body (Some (reserve_record upto)) reads ∙ append-nil (homes_of R));
        facts = was.facts ∙ ap facts_before entries;
        leaves = was.leaves ∙ ap (map leaf_hash) (sym (leaves-more R body (reserve_record upto) reads ∙ append-nil (leaves_of R)));
        last = was.last ∙ ap last_moment entries;
        logged = was.logged ∙ ap logged_bytes entries;
      }

  pub batch_added : (leaf signature : List ℕ) (index : ℕ) (e : Entry)
      → record_of body ≡ Some (batch_record (record { entries = leaf ∷ []; index = index; signature = signature })) → entry_of leaf ≡ Some e → K.used ≤ index
      → StateOf (with_batch K index (leaf_hash leaf) e.at e.statement) more
  batch_added leaf signature index e reads is above =
      let b : BatchParts = record { entries = leaf ∷ []; index = index; signature = signature } in
      let count = was.records in
      let used = was.used in
      let L = leaves_of R in
      let entries : E ++ e ∷ [] ≡ entries_of more = sym (entries-batch R body leaf b e reads refl is) in
      let after : index + 1 ≡ max (used_of R) (index + 1) = omega (arith, used, above) in
      record {
        sound = sound;
        records = omega (arith, count, length-append R (body ∷ []));
        header = was.header ∙ sym same_header;
        policy = ap (option_map (λ (p : Policy). policy_with p e.statement)) policy_now ∙ ap Some (sym (in_force-more h E e)) ∙ ap (λ (F : List Entry). Some (in_force h F)) entries
            ∙ ap (option_map (λ (k : Header). in_force k (entries_of more))) (sym head ∙ sym same_header);
        reserved = was.reserved ∙ sym (reserved-more R body (batch_record b) reads);
        used = after ∙ sym (used-more R body (batch_record b) reads);
        ids = ap (λ xs. xs ++ id_of e.statement ∷ []) was.ids ∙ sym (map-append (λ (x : Entry). id_of x.statement) E (e ∷ [])) ∙ ap (map (λ (x : Entry). id_of x.statement)) entries;
        homes = ap (λ n. K.homes ++ n ∷ []) count ∙ ap (λ xs. xs ++ length R ∷ []) was.homes ∙ sym (homes-more R body (Some (batch_record b)) reads);
        facts = ap (λ (xs : List Facts). xs ++ facts_of e.statement ∷ []) was.facts ∙ sym (map-append (λ (x : Entry). facts_of x.statement) E (e ∷ [])) ∙ ap facts_before entries;
        leaves = ap (λ xs. xs ++ leaf_hash leaf ∷ []) was.leaves ∙ sym (map-append leaf_hash L (leaf ∷ [])) ∙ ap (map leaf_hash) (sym (leaves-more R body (batch_record b) reads));
        last = sym (fold-append (λ (m : ℕ) (x : Entry). x.at) 0 E (e ∷ [])) ∙ ap last_moment entries;
        logged = ap (λ n. n + length e.statement.logged) was.logged ∙ sym (fold-append (λ (n : ℕ) (x : Entry). n + length x.statement.logged) 0 E (e ∷ [])) ∙ ap logged_bytes entries;
      }

-- an index that holds is above those used
above_used : (reserved used index : ℕ) (o : Option ℕ) → index_holds reserved used index o ≡ true → used ≤ index
above_used reserved used index None e = cc
above_used reserved used index (Some i) e =
    let a = and_parts _ _ e in
    let b = and_parts _ _ a.0 in
    omega (arith, eqb-true i index b.0, leb-true used i a.1)

not_false : (b : Bool) → not b ≡ false → b ≡ true
not_false true e = refl
not_false false e = cc

batch_index : (h : Header) (reserved used : ℕ) (leaves : List (List ℕ)) (b : BatchParts) (hash : List ℕ) → first_row (kept_batch_rows h reserved used leaves b hash) ≡ None → used ≤ b.index
batch_index h reserved used leaves b hash e =
    above_used reserved used b.index (flat_index h.levels b.signature) (not_false _ (all_false (kept_batch_rows h reserved used leaves b hash) e).0)

entry_there : (h : Header) (p : Policy) (K : Kept) (o : Option Entry) → kept_entry_failing h p K o ≡ None → (e : Entry) × (o ≡ Some e)
entry_there h p K None f = cc
entry_there h p K (Some e) f = (e, refl)

module _ (K : Kept) (R : Log) (h : Header) (p : Policy) (was : StateOf K R) (head : header_of R ≡ Some h) (body : List ℕ) (sound : WellMade (R ++ body ∷ [])) where
  one_added : (leaf signature : List ℕ) (index : ℕ) (e : Entry) → record_of body ≡ Some (batch_record (record { entries = leaf ∷ []; index = index; signature = signature }))
      → entry_of leaf ≡ Some e → K.used ≤ index → StateOf (with_entry K index (leaf_hash leaf) (entry_of leaf)) (R ++ body ∷ [])
  one_added leaf signature index e reads is above =
      subst (λ (o : Option Entry). StateOf (with_entry K index (leaf_hash leaf) o) (R ++ body ∷ [])) (sym is) (batch_added K R h was head body sound leaf signature index e reads is above)

  entries_added : (entries : List (List ℕ)) (index : ℕ) (signature : List ℕ) → let b : BatchParts = record { entries = entries; index = index; signature = signature } in
      record_of body ≡ Some (batch_record b) → kept_batch_failing h p K b entries ≡ None → StateOf (with_entries K index entries) (R ++ body ∷ [])
  entries_added [] index signature reads fails = cc
  entries_added (leaf ∷ []) index signature reads fails =
      let b : BatchParts = record { entries = leaf ∷ []; index = index; signature = signature } in
      let entry = entry_there h p K (entry_of leaf) (first_none (kept_entry_failing h p K (entry_of leaf)) (first_row (kept_batch_rows h K.reserved K.used K.leaves b (leaf_hash leaf))) fails) in
      let rows = second_none (kept_entry_failing h p K (entry_of leaf)) (first_row (kept_batch_rows h K.reserved K.used K.leaves b (leaf_hash leaf))) fails in
      one_added leaf signature index entry.0 reads entry.1 (batch_index h K.reserved K.used K.leaves b (leaf_hash leaf) rows)
  entries_added (leaf ∷ other ∷ more) index signature reads fails = cc

  added : (o : Option Record) → record_of body ≡ o → failing_behind h p K o ≡ None → StateOf (with_record K o) (R ++ body ∷ [])
  unfolding failing_behind with_record
  added None reads fails = cc
  added (Some (header_record new)) reads fails = cc
  added (Some (reserve_record upto)) reads fails = reserve_added K R h was head body sound upto reads
  added (Some (batch_record b)) reads fails = entries_added b.entries b.index b.signature reads fails

-- the first record
first_state : (body : List ℕ) (h : Header) → record_of body ≡ Some (header_record h) → WellMade (body ∷ []) → StateOf (first_kept h) (body ∷ [])
first_state body h read sound =
    let e : header_record h ∷ [] ≡ records_of (body ∷ []) = ap (λ (o : Option Record). cons_option o []) (sym read) in
    let leaves : [] ≡ leaves_of (body ∷ []) = ap (flat_map entries_in) e in
    let entries : [] ≡ entries_of (body ∷ []) = ap (filter_map entry_of) leaves in
    let head : Some h ≡ header_of (body ∷ []) = ap header_first e in
    record {
      sound = sound;
      records = refl;
      header = head;
      policy = ap (λ (F : List Entry). Some (in_force h F)) entries ∙ ap (option_map (λ (k : Header). in_force k (entries_of (body ∷ [])))) head;
      reserved = ap (fold reserved_after 0) e;
      used = ap (fold used_after 0) e;
      ids = ap (map (λ (x : Entry). id_of x.statement)) entries;
      homes = sym (homes-more [] body (Some (header_record h)) read);
      facts = ap facts_before entries;
      leaves = ap (map leaf_hash) leaves;
      last = ap last_moment entries;
      logged = ap logged_bytes entries;
    }

never : (o : Option Failing) → option_or o (Some (fails_by why.Order)) ≡ None → ⊥
never None e = cc
never (Some f) e = cc

first_added : (K : Kept) (body : List ℕ) (o : Option Record) → record_of body ≡ o → failing_first o ≡ None → WellMade (body ∷ []) → StateOf (with_record K o) (body ∷ [])
unfolding failing_first with_record
first_added K body None reads fails sound = cc
first_added K body (Some (header_record h)) reads fails sound = first_state body h reads sound
first_added K body (Some (reserve_record upto)) reads fails sound = cc
first_added K body (Some (batch_record b)) reads fails sound = absurd (never (first_row ((not (has_shape (Some (batch_record b))), fails_by why.Form) ∷ [])) fails)

-- a record that may stand first is a header
is_head : (o : Option Record) → failing_first o ≡ None → (h : Header) × (o ≡ Some (header_record h))
unfolding failing_first
is_head None e = cc
is_head (Some (header_record h)) e = (h, refl)
is_head (Some (reserve_record upto)) e = cc
is_head (Some (batch_record b)) e = absurd (never (first_row ((not (has_shape (Some (batch_record b))), fails_by why.Form) ∷ [])) e)

-- a well made log without a header has no records
pub no_header : (R : Log) → WellMade R → header_of R ≡ None → R ≡ []
no_header [] sound none = refl
no_header (body ∷ R) sound none =
    let head = is_head (record_of body) (by_first [] (record_of body) ∙ sound.0) in
    let bad : Some head.0 ≡ None = ap (λ (o : Option Record). header_first (cons_option o (records_of R))) (sym head.1) ∙ none in
    cc

by_case : RootOfLeaves → (K : Kept) (R : Log) (body : List ℕ) → StateOf K R → failing_of R body ≡ None → (k : Option Header) → header_of R ≡ k → StateOf (with_record K (record_of body)) (R ++ body ∷ [])
by_case given K R body was fails None head =
    let nothing : R ≡ [] = no_header R was.sound head in
    let first : failing_first (record_of body) ≡ None =
    by_first [] (record_of body) ∙ sym (ap (λ (X : Log). failing_by X (record_of body)) nothing) ∙ fails in
    let sound : WellMade (body ∷ []) = (sym (by_first [] (record_of body)) ∙ first, tt) in
    subst (λ (X : Log). StateOf (with_record K (record_of body)) (X ++ body ∷ [])) (sym nothing) (first_added K body (record_of body) refl first sound)
by_case given K R body was fails (Some h) head =
    let p = in_force h (entries_of R) in
    let now : K.policy ≡ Some p = was.policy ∙ ap (option_map (λ (x : Header). in_force x (entries_of R))) head in
    let behind : failing_behind h p K (record_of body) ≡ None =
    by_record given K R h p was head now (record_of body)
    ∙ ap (λ (k : Option Header). option_or (first_row ((not (has_shape (record_of body)), fails_by why.Form) ∷ [])) (failing_after R k (record_of body))) (sym head) ∙ fails in
    added K R h p was head body (well R body was.sound fails) (record_of body) refl behind

pub record_is_added : RootOfLeaves → RecordIsAdded
record_is_added given K R body was fails = by_case given K R body was fails (header_of R) refl
