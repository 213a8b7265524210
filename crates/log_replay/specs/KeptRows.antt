-- The judgement and the rules by what a state keeps.
use Rattle.std.specs.Prelude.{ℕ, ◌+◌, max, List, [], ◌∷◌, ◌++◌, Bool, not, ◌||◌, nat_lt, Option, None, Some, length, option_map, unwrap_or, position}
use Rattle.std.specs.Option.{option_or}
use Rattle.std.specs.Str.{bytes_eq}
use Rattle.sha2.specs.Sha256.{sha256}
use Rattle.cbor_core.specs.Rows.{first_row}
use Rattle.hss_keys.specs.Functions.{hss_verifies, flat_index}
use Rattle.merkle_tree.specs.Mth.{leaf_hash, tree_root}
use Rattle.statement.specs.Said.{Said, id_of}
use Rattle.policy_rules.specs.declared.documents.Policy.{Policy}
use Rattle.policy_rules.specs.declared.facts.Facts.{Facts}
use Rattle.log_replay.specs.declared.parts.Header.{Header}
use Rattle.log_replay.specs.declared.parts.BatchParts.{BatchParts}
use Rattle.log_replay.specs.declared.words.Judgement.{Judgement}
use Rattle.log_replay.specs.declared.words.Judgement.TheVariants.{Known}
use Rattle.log_replay.specs.declared.words.Failing.{Failing}
use Rattle.log_replay.specs.declared.words.Why.TheVariants as why
use Rattle.receipts.specs.Signed.{signed_text}
use Rattle.log_replay.specs.Records.{Record, header_record, reserve_record, batch_record, Entry, entry_of}
use Rattle.log_replay.specs.Judging.{judge_new}
use Rattle.log_replay.specs.WellMade.{fails_by, admits_by, judged_rule, most_logged_bytes, index_holds, reserve_holds, header_holds, has_shape}
use Rattle.log_replay.specs.Kept.{Kept, first_kept, with_reserve, with_batch}

abbrev pub place_in : List (List ℕ) → List ℕ → Option ℕ
place_in ids id = position (λ i. bytes_eq i id) ids

abbrev pub judge_kept : Policy → List (List ℕ) → List Facts → ℕ → Said → ℕ → Judgement
judge_kept p ids earlier last s m = unwrap_or (option_map Known (place_in ids (id_of s))) (judge_new p earlier s (max m last))

-- the rules on one entry, by its judgement, and by the last moment, the number and the bytes of the entries before it
abbrev pub kept_entry_rows : Header → Judgement → ℕ → ℕ → ℕ → ℕ → ℕ → ℕ → List (Bool × Failing)
kept_entry_rows h j last count logged at rule len =
    (nat_lt at last, fails_by why.Moment)
    ∷ (not (admits_by rule j), record { why = why.Verdict; recorded = rule; found = judged_rule j })
    ∷ (nat_lt h.max_entries (count + 1) || nat_lt most_logged_bytes (logged + len), fails_by why.Full)
    ∷ []

abbrev pub kept_entry_failing : Header → Policy → Kept → Option Entry → Option Failing
kept_entry_failing h p K None = Some (fails_by why.EntryForm)
kept_entry_failing h p K (Some e) =
    first_row (kept_entry_rows h (judge_kept p K.ids K.facts K.last e.statement e.at) K.last (length K.ids) K.logged e.at e.rule (length e.statement.logged))

-- what the service signs for the leaves with one more
abbrev pub kept_text : Header → List (List ℕ) → List ℕ → List ℕ
kept_text h leaves hash = signed_text h.name (sha256 h.key) (length leaves + 1) (tree_root (leaves ++ hash ∷ []))

-- the rules on a Batch whose entry fails none, by the entry's leaf hash
abbrev pub kept_batch_rows : Header → ℕ → ℕ → List (List ℕ) → BatchParts → List ℕ → List (Bool × Failing)
kept_batch_rows h reserved used leaves b hash =
    (not (index_holds reserved used b.index (flat_index h.levels b.signature)), fails_by why.Index)
    ∷ (not (hss_verifies h.key b.signature (kept_text h leaves hash)), fails_by why.Signature)
    ∷ []

abbrev pub kept_batch_failing : Header → Policy → Kept → BatchParts → List (List ℕ) → Option Failing
kept_batch_failing h p K b (leaf ∷ []) =
    option_or (kept_entry_failing h p K (entry_of leaf)) (first_row (kept_batch_rows h K.reserved K.used K.leaves b (leaf_hash leaf)))
kept_batch_failing h p K b _ = Some (fails_by why.Form)

-- the first rule that a record fails behind a header
unfoldable pub failing_behind : Header → Policy → Kept → Option Record → Option Failing
failing_behind h p K None = Some (fails_by why.Form)
failing_behind h p K (Some (header_record new)) = Some (fails_by why.Order)
failing_behind h p K (Some (reserve_record upto)) = first_row ((not (reserve_holds h K.reserved upto), fails_by why.Reserve) ∷ [])
failing_behind h p K (Some (batch_record b)) = kept_batch_failing h p K b b.entries

-- the first rule that the first record fails
unfoldable pub failing_first : Option Record → Option Failing
failing_first None = Some (fails_by why.Form)
failing_first (Some (header_record h)) = first_row ((not (header_holds h), fails_by why.Header) ∷ [])
failing_first (Some r) = option_or (first_row ((not (has_shape (Some r)), fails_by why.Form) ∷ [])) (Some (fails_by why.Order))

abbrev pub failing_with : Option Header → Option Policy → Kept → Option Record → Option Failing
failing_with (Some h) (Some p) K o = failing_behind h p K o
failing_with _ _ K o = failing_first o

-- the first rule that a record fails, by what is kept
abbrev pub failing_kept : Kept → Option Record → Option Failing
failing_kept K o = failing_with K.header K.policy K o

-- what is kept with one record more
abbrev pub with_entry : Kept → ℕ → List ℕ → Option Entry → Kept
with_entry K index hash None = K
with_entry K index hash (Some e) = with_batch K index hash e.at e.statement

abbrev pub with_entries : Kept → ℕ → List (List ℕ) → Kept
with_entries K index (leaf ∷ []) = with_entry K index (leaf_hash leaf) (entry_of leaf)
with_entries K index _ = K

unfoldable pub with_record : Kept → Option Record → Kept
with_record K None = K
with_record K (Some (header_record h)) = first_kept h
with_record K (Some (reserve_record upto)) = with_reserve K upto
with_record K (Some (batch_record b)) = with_entries K b.index b.entries
