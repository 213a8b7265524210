-- The answers of a log, as byte strings.
use Rattle.std.specs.Prelude.{◌≡◌, ℕ, ◌+◌, ◌<◌, ◌≤◌, List, [], ◌∷◌, Option, None, Some, length, nat_lt, nat_le, ◌&&◌, if◌then◌else◌, find, take, slice_get, option_map}
use Rattle.std.specs.List.{last_or}
use Rattle.sha2.specs.Sha256.{sha256}
use Rattle.cbor_core.specs.Exact.{strict_text}
use Rattle.cose_sign1.specs.KeySet.{key_set_item}
use Rattle.merkle_tree.specs.Paths.{path_of}
use Rattle.merkle_tree.specs.Consistency.{proof_of}
use Rattle.receipts.specs.declared.receipt.Receipt.{Receipt}
use Rattle.receipts.specs.declared.receipt.Proof.{Proof}
use Rattle.receipts.specs.declared.receipt.Proof.TheVariants.{Inclusion, Consistency}
use Rattle.receipts.specs.Written.{receipt_item}
use Rattle.policy_rules.specs.Spelling.{policy_item}
use Rattle.log_replay.specs.declared.parts.Header.{Header}
use Rattle.log_replay.specs.declared.parts.BatchParts.{BatchParts}
use Rattle.log_replay.specs.Records.{Log, Entry, Signed, header_of, leaves_of, entries_of, batches_of}
use Rattle.log_replay.specs.Judging.{in_force}
use Rattle.log_replay.specs.WellMade.{WellMade}
use Rattle.log_replay.specs.Growth.{StandsAt}

-- a receipt by the header's name and key and by a Batch's size and signature; its kid is the key's digest
abbrev pub receipt_with : Header → Signed → Proof → Receipt
receipt_with h b proof = record { name = h.name; kid = sha256 h.key; size = b.size; proof = proof; signature = b.signature }

-- ---- the receipt of an entry

-- the Batch of entry i: the first whose size is above i
abbrev pub batch_of : Log → ℕ → Option Signed
batch_of R i = find (λ b. nat_lt i b.size) (batches_of R)

-- the path of the entry in the tree of its Batch's size (RFC 9162, 2.1.3.1), when it was registered, and by which rule
abbrev pub inclusion_of : List (List ℕ) → ℕ → Entry → Signed → Proof
inclusion_of leaves i e b = Inclusion b.size i (path_of i (take b.size leaves)) e.at e.rule

abbrev pub receipt_from : List (List ℕ) → ℕ → Option Header → Option Entry → Option Signed → Option Receipt
receipt_from leaves i (Some h) (Some e) (Some b) = Some (receipt_with h b (inclusion_of leaves i e b))
receipt_from leaves i _ _ _ = None

abbrev pub receipt_at : Log → ℕ → Option Receipt
receipt_at R i = receipt_from (leaves_of R) i (header_of R) (slice_get (entries_of R) i) (batch_of R i)

-- its strict bytes; there are none where there is no entry i
abbrev pub receipt_of : Log → ℕ → Option (List ℕ)
receipt_of R i = option_map (λ r. strict_text (receipt_item r)) (receipt_at R i)

-- ---- the consistency receipt of an old size

abbrev pub last_batch : Log → Option Signed
last_batch R = last_or None (batches_of R)

-- the proof that the tree of the last Batch's size begins with that of the old one (RFC 9162, 2.1.4.1)
abbrev pub consistency_from : List (List ℕ) → ℕ → Option Header → Option Signed → Option Receipt
consistency_from leaves old (Some h) (Some b) =
    if nat_lt 0 old && nat_le old b.size then Some (receipt_with h b (Consistency old b.size (proof_of old (take b.size leaves)))) else None
consistency_from leaves old _ _ = None

abbrev pub consistency_at : Log → ℕ → Option Receipt
consistency_at R old = consistency_from (leaves_of R) old (header_of R) (last_batch R)

-- its strict bytes; there are none of the size 0, and of a size above the last Batch's
abbrev pub consistency_of : Log → ℕ → Option (List ℕ)
consistency_of R old = option_map (λ r. strict_text (receipt_item r)) (consistency_at R old)

-- ---- the other answers

-- the logged form of entry i
abbrev pub statement_at : Log → ℕ → Option (List ℕ)
statement_at R i = option_map (λ e. e.statement.logged) (slice_get (entries_of R) i)

-- the set of the service's key; of a log without a header there is none
abbrev pub keys_of : Log → Option (List ℕ)
keys_of R = option_map (λ h. strict_text (key_set_item (h.key ∷ []))) (header_of R)

-- the document in force, or the bootstrap policy
abbrev pub policy_bytes : Log → Option (List ℕ)
policy_bytes R = option_map (λ h. strict_text (policy_item (in_force h (entries_of R)))) (header_of R)

-- ---- laws

-- in a well made log the Batch of entry i is Batch i
abbrev pub EntryHasBatch : Type 0
EntryHasBatch = (R : Log) (i : ℕ) → WellMade R → i < length (entries_of R) → batch_of R i ≡ slice_get (batches_of R) i

-- and the last Batch is that of the last entry
abbrev pub LastHasBatch : Type 0
LastHasBatch = (R : Log) (i : ℕ) → WellMade R → i + 1 ≡ length (entries_of R) → last_batch R ≡ slice_get (batches_of R) i

-- Batch i by what it says
abbrev pub signed_at : ℕ → BatchParts → Signed
signed_at i b = record { size = i + 1; index = b.index; signature = b.signature }

-- so the receipt of entry i is by the Batch that holds it
abbrev pub ReceiptIsOfBatch : Type 0
ReceiptIsOfBatch = (R : Log) (h : Header) (i n : ℕ) (body leaf : List ℕ) (b : BatchParts) (e : Entry) → WellMade R → header_of R ≡ Some h → StandsAt R i n body leaf b e
    → receipt_at R i ≡ Some (receipt_with h (signed_at i b) (Inclusion (i + 1) i (path_of i (take (i + 1) (leaves_of R))) e.at e.rule))

-- and a consistency receipt by the Batch of the last entry, with the proof in the tree of all entries
abbrev pub ConsistencyIsOfLast : Type 0
ConsistencyIsOfLast = (R : Log) (h : Header) (i n old : ℕ) (body leaf : List ℕ) (b : BatchParts) (e : Entry) → WellMade R → header_of R ≡ Some h → StandsAt R i n body leaf b e
    → i + 1 ≡ length (entries_of R) → 1 ≤ old → old ≤ i + 1
    → consistency_at R old ≡ Some (receipt_with h (signed_at i b) (Consistency old (i + 1) (proof_of old (leaves_of R))))
