-- The records of a statement that is admitted, and what holds of the log that they are written behind.
use Rattle.std.specs.Prelude.{◌≡◌, ℕ, ◌+◌, ◌<◌, ◌≤◌, true, List, [], ◌∷◌, ◌++◌, length, Option, Some, IfSome}
use Rattle.cbor_core.specs.Exact.{strict_text}
use Rattle.hss_keys.specs.Functions.{hss_verifies, flat_index}
use Rattle.merkle_tree.specs.Paths.{path_of}
use Rattle.receipts.specs.declared.receipt.Proof.TheVariants.{Inclusion}
use Rattle.receipts.specs.Written.{receipt_item}
use Rattle.statement.specs.Said.{Said}
use Rattle.log_replay.specs.declared.parts.Header.{Header}
use Rattle.log_replay.specs.Records.{Log, record_of, reserve_record, header_of, entries_of, leaves_of, used_of, reserved_of}
use Rattle.log_replay.specs.Steps.{batch_with, entry_text}
use Rattle.log_replay.specs.WellMade.{WellMade, text_signed}
use Rattle.log_replay.specs.Answers.{receipt_with}
use Rattle.registrar.specs.declared.writing.Needed.{Needed}
use Rattle.registrar.specs.declared.writing.Batch.{Batch}
use Rattle.registrar.specs.Turns.{Standing, needed_of, ready_log}
use Rattle.registrar.specs.Writing.{body_needed}

-- the log with the Reserve that is needed says what the log says, but that the next index is reserved
pub record IsReadied (S : Standing) (h : Header) : Type 0 where
  pub well : WellMade (ready_log S)
  pub header : header_of (ready_log S) ≡ Some h
  pub entries : entries_of (ready_log S) ≡ entries_of S.log
  pub leaves : leaves_of (ready_log S) ≡ leaves_of S.log
  pub used : used_of (ready_log S) ≡ used_of S.log
  pub ahead : S.next + 1 ≤ reserved_of (ready_log S)

-- a body that isn't empty or too long
pub record IsShort (body : List ℕ) : Type 0 where
  pub some : 0 < length body
  pub short : length body ≤ 16777216

-- the Reserve that is needed, where one is
pub record IsNeeded (S : Standing) (h : Header) (needed : Option Needed) : Type 0 where
  pub is : body_needed needed ≡ needed_of S
  pub reads : IfSome needed (λ n. record_of n.body.items ≡ Some (reserve_record n.upto))
  pub short : IfSome needed (λ n. IsShort n.body.items)
  pub readied : IsReadied S h

-- the Batch of a statement behind this log, signed at this index, and the receipt of its entry
pub record IsSealed (R : Log) (h : Header) (s : Said) (at rule index : ℕ) (batch : Batch) (receipt : List ℕ) : Type 0 where
  pub at_is : batch.at ≡ at
  pub rule_is : batch.rule ≡ rule
  pub index_is : batch.index ≡ index
  pub reads : record_of batch.body.items ≡ Some (batch_with batch.at batch.rule s batch.index batch.signature.items)
  pub short : IsShort batch.body.items
  pub indexed : flat_index h.levels batch.signature.items ≡ Some index
  pub signed : hss_verifies h.key batch.signature.items (text_signed h (leaves_of R ++ entry_text at rule s ∷ [])) ≡ true
  pub receipt_is : receipt ≡ strict_text (receipt_item (receipt_with h (record { size = length (leaves_of R) + 1; index = index; signature = batch.signature.items })
      (Inclusion (length (leaves_of R) + 1) (length (leaves_of R)) (path_of (length (leaves_of R)) (leaves_of R ++ entry_text at rule s ∷ [])) at rule)))
