-- A Batch that is accepted: its entry reads, and what the rules say of the numbers.
use Rattle.std.proofs.Common.{◌≡◌, ℕ, ◌+◌, ◌≤◌, ◌<◌, ◌^◌, List, [], ◌∷◌, Option, None, Some, refl, ap, ◌∙◌, subst, length}
use Rattle.std.specs.Prelude.{option_map, option_and_then, nat_lt}
use Rattle.std.specs.Option.{option_or}
use Rattle.std.proofs.lemmas.Bool.{ltb-false}
use Rattle.cbor_core.specs.Rows.{first_row}
use Rattle.cbor_core.specs.Fitting.{StrictReadsAgain}
use Rattle.hss_keys.specs.Functions.{flat_index}
use Rattle.merkle_tree.specs.Mth.{leaf_hash}
use Rattle.policy_rules.specs.declared.documents.Policy.{Policy}
use Rattle.statement.specs.Said.{Said, logged_statement}
use Rattle.log_replay.specs.declared.parts.Header.{Header}
use Rattle.log_replay.specs.declared.parts.BatchParts.{BatchParts}
use Rattle.log_replay.specs.declared.words.Failing.{Failing}
use Rattle.log_replay.specs.declared.words.Why.TheVariants as why
use Rattle.log_replay.specs.Records.{Entry, batch_record, entry_of, entry_with, entry_in, entry_item, parts_of}
use Rattle.log_replay.specs.Spelling.{FitsIn}
use Rattle.log_replay.specs.Steps.{entry_text, batch_with}
use Rattle.log_replay.specs.WellMade.{fails_by, most_logged_bytes}
use Rattle.log_replay.specs.Kept.{Kept, Stands, with_batch}
use Rattle.log_replay.specs.KeptRows.{judge_kept, kept_entry_rows, kept_entry_failing, kept_batch_rows, kept_batch_failing, failing_behind, failing_first, failing_with, failing_kept, with_record}
use Rattle.log_replay.specs.Laws.{FailingIsFailing, OneLess}
use Rattle.log_replay.proofs.Accepting.{FitsAll, fits_kept}
use Rattle.log_replay.proofs.Batching.{record_is_batch}
use Rattle.log_replay.proofs.Fitting.{all_false, first_none, second_none, or_first, or_second, was_true, index_says}
use Rattle.log_replay.proofs.ReadsAgain.{entry_reads}

-- an entry's bytes read as that entry
pub text_reads : StrictReadsAgain → (at rule : ℕ) (s : Said) → FitsIn (45 + length s.logged) (entry_item at rule s.logged) → rule ≤ 65535 → logged_statement s.logged ≡ Some s
    → entry_of (entry_text at rule s) ≡ Some (record { at = at; rule = rule; statement = s })
unfolding entry_of parts_of
text_reads again at rule s fits small reads =
    ap (λ o. option_and_then entry_with (option_and_then entry_in o)) (again (entry_item at rule s.logged) fits.strict)
    ∙ ap (option_and_then entry_with) (entry_reads at rule s.logged small)
    ∙ ap (option_map (λ (x : Said). record { at = at; rule = rule; statement = x })) reads

-- what a Batch of one entry says where no rule fails on it
pub record BatchSays (K : Kept) (index len : ℕ) : Type 0 where
  pub head : Header
  pub headed : K.header ≡ Some head
  pub room : length K.ids + 1 ≤ head.max_entries
  pub bytes : K.logged + len ≤ most_logged_bytes
  pub below : index < K.reserved

never : (o : Option Failing) → option_or o (Some (fails_by why.Order)) ≡ None → ⊥
never None e = cc
never (Some f) e = cc

module _ (K : Kept) (b : BatchParts) (leaf : List ℕ) (e : Entry) (one : b.entries ≡ leaf ∷ []) (is : entry_of leaf ≡ Some e) where
  abbrev Says : Type 0
  Says = BatchSays K b.index (length e.statement.logged)

  behind_says : (h : Header) (p : Policy) → K.header ≡ Some h → kept_batch_failing h p K b b.entries ≡ None → Says
  behind_says h p headed none =
      let entry = kept_entry_failing h p K (entry_of leaf) in
      let rows = first_row (kept_batch_rows h K.reserved K.used K.leaves b (leaf_hash leaf)) in
      let whole : option_or entry rows ≡ None = subst (λ (xs : List (List ℕ)). kept_batch_failing h p K b xs ≡ None) one none in
      let first : kept_entry_failing h p K (Some e) ≡ None = subst (λ (o : Option Entry). kept_entry_failing h p K o ≡ None) is (first_none entry rows whole) in
      let tests = all_false (kept_entry_rows h (judge_kept p K.ids K.facts K.last e.statement e.at) K.last (length K.ids) K.logged e.at e.rule (length e.statement.logged)) first in
      let full = tests.1.1.0 in
      let index = was_true _ (all_false (kept_batch_rows h K.reserved K.used K.leaves b (leaf_hash leaf)) (second_none entry rows whole)).0 in
      record {
        head = h;
        headed = headed;
        room = ltb-false h.max_entries (length K.ids + 1) (or_first (nat_lt h.max_entries (length K.ids + 1)) _ full);
        bytes = ltb-false most_logged_bytes (K.logged + length e.statement.logged) (or_second (nat_lt h.max_entries (length K.ids + 1)) _ full);
        below = (index_says K.reserved K.used b.index (flat_index h.levels b.signature) index).1;
      }

  with_says : (a : Option Header) (o : Option Policy) → K.header ≡ a → failing_with a o K (Some (batch_record b)) ≡ None → Says
  unfolding failing_first failing_behind
  with_says None o headed none = absurd (never _ none)
  with_says (Some h) None headed none = absurd (never _ none)
  with_says (Some h) (Some p) headed none = behind_says h p headed none

  pub batch_says : FailingIsFailing → OneLess → FitsAll K (batch_record b) → ∥ Stands K ∥₁ → Says
  batch_says same less fits made = with_says K.header K.policy refl (fits_kept same less K (batch_record b) fits made)

abbrev pub EntryFits : Type 0
EntryFits = (at rule : ℕ) (logged : List ℕ) → at < 2 ^ 64 → rule ≤ 65535 → length logged ≤ 4194304 → FitsIn (45 + length logged) (entry_item at rule logged)

-- what a Batch that fits says of the state, and what is kept with it
pub record Accepts (K : Kept) (at rule : ℕ) (s : Said) (index : ℕ) (signature : List ℕ) : Type 0 where
  pub none : failing_kept K (Some (batch_with at rule s index signature)) ≡ None
  pub says : BatchSays K index (length s.logged)
  pub kept : with_record K (Some (batch_with at rule s index signature)) ≡ with_batch K index (leaf_hash (entry_text at rule s)) at s

pub accepts : FailingIsFailing → OneLess → StrictReadsAgain → EntryFits → (K : Kept) (at rule : ℕ) (s : Said) (index : ℕ) (signature : List ℕ) → at < 2 ^ 64 → rule ≤ 65535
    → length s.logged ≤ 4194304 → logged_statement s.logged ≡ Some s → FitsAll K (batch_with at rule s index signature) → ∥ Stands K ∥₁ → Accepts K at rule s index signature
accepts same less again fitting K at rule s index signature few small short reads fits made =
    let leaf = entry_text at rule s in
    let b : BatchParts = record { entries = leaf ∷ []; index = index; signature = signature } in
    let e : Entry = record { at = at; rule = rule; statement = s } in
    let is = text_reads again at rule s (fitting at rule s.logged few small short) small reads in
    record {
      none = fits_kept same less K (batch_record b) fits made;
      says = batch_says K b leaf e refl is same less fits made;
      kept = record_is_batch K b leaf e refl is;
    }
