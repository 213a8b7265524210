-- An entry that fails no rule of its own.
use Rattle.std.specs.Prelude.{◌≡◌, ℕ, ◌+◌, ◌<◌, ◌≤◌, List, None, Some, length}
use Rattle.statement.specs.Said.{said_of}
use Rattle.policy_rules.specs.declared.documents.Policy.{Policy}
use Rattle.log_replay.specs.declared.parts.Header.{Header}
use Rattle.log_replay.specs.declared.parts.BatchParts.{BatchParts}
use Rattle.log_replay.specs.declared.stepping.Ready.{Ready}
use Rattle.log_replay.specs.Records.{Entry, entry_of, batch_record}
use Rattle.log_replay.specs.Kept.{Kept}
use Rattle.log_replay.specs.KeptRows.{kept_entry_failing, failing_kept}

abbrev pub ready_entry : Ready → Entry
ready_entry r = record { at = r.at; rule = r.rule; statement = said_of r.checked.statement }

pub record EntryHolds (h : Header) (p : Policy) (K : Kept) (leaf : List ℕ) (r : Ready) : Type 0 where
  pub none : kept_entry_failing h p K (entry_of leaf) ≡ None
  pub entry : entry_of leaf ≡ Some (ready_entry r)
  pub count : length K.ids < h.max_entries
  pub bytes : K.logged + length r.checked.statement.logged ≤ 536870912

-- a Batch of this one entry that fails no rule
pub record BatchHolds (K : Kept) (b : BatchParts) (leaf : List ℕ) (r : Ready) : Type 0 where
  pub none : failing_kept K (Some (batch_record b)) ≡ None
  pub entry : entry_of leaf ≡ Some (ready_entry r)
  pub count : length K.ids < 65536
  pub bytes : K.logged + length r.checked.statement.logged ≤ 536870912
  pub index : b.index < K.reserved
