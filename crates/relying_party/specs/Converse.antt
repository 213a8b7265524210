-- What is accepted of those who do as they should.
use Rattle.std.specs.Prelude.{◌≡◌, ℕ, ◌≤◌, ◌<◌, ◌⊎◌, true, List, [], length, take, slice_get, Some, Ok}
use Rattle.cose_sign1.specs.Attached.{Attaches}
use Rattle.merkle_tree.specs.Mth.{mth}
use Rattle.merkle_tree.specs.Paths.{path_of}
use Rattle.merkle_tree.specs.Consistency.{proof_of}
use Rattle.statement.specs.declared.statement_type.Statement.{Statement}
use Rattle.statement.specs.Parsed.{StatementOf}
use Rattle.receipts.specs.declared.receipt.Receipt.{Receipt}
use Rattle.receipts.specs.declared.receipt.Proof.TheVariants.{Inclusion, Consistency}
use Rattle.receipts.specs.Form.{receipt_of}
use Rattle.relying_party.specs.declared.trust.Trust.{Trust}
use Rattle.relying_party.specs.declared.answers.ReceiptResult.TheVariants.{Accepted}
use Rattle.relying_party.specs.declared.answers.ConsistencyResult.TheVariants.{Consistent}
use Rattle.relying_party.specs.declared.answers.StatementCheck.TheVariants.{Fine}
use Rattle.relying_party.specs.declared.answers.Verdict.{Verdict}
use Rattle.relying_party.specs.Entries.{entry_bytes}
use Rattle.relying_party.specs.Accepts.{service_key, signs_root, issuer_key, signs_statement, receipt_result, Accepts}
use Rattle.relying_party.specs.Growth.{consistency_result}

-- a receipt shows, by the standard's path, that this entry stands at an index of a list of entries, whose root the key of the first service that it
-- names verifies
pub record ShowsEntry (trust : Trust) (r : Receipt) (entries : List (List ℕ)) (index at rule : ℕ) (logged : List ℕ) : Type 0 where
  pub size : r.size ≡ length entries
  pub proof : r.proof ≡ Inclusion (length entries) index (path_of index entries) at rule
  pub there : slice_get entries index ≡ Some (entry_bytes at rule logged)
  pub key : List ℕ
  pub trusted : service_key trust r ≡ Some key
  pub signed : signs_root key r (mth entries) ≡ true

-- such a receipt is accepted
abbrev pub ShownIsAccepted : Type 0
ShownIsAccepted = (trust : Trust) (bytes logged : List ℕ) (r : Receipt) (entries : List (List ℕ)) (index at rule : ℕ) → receipt_of bytes ≡ Some r
    → ShowsEntry trust r entries index at rule logged → receipt_result trust logged bytes ≡ Accepted (length entries) (mth entries) index at rule

-- the statement's issuer isn't asked for, or the first issuer that it names verifies its signature
abbrev pub IsBelieved : Trust → Statement → Type 0
IsBelieved trust s = (trust.issuers ≡ []) ⊎ (signs_statement (issuer_key trust s) s ≡ true)

-- a statement is accepted to which such a receipt of its own entry was attached
abbrev pub AttachedIsAccepted : Type 0
AttachedIsAccepted = (trust : Trust) (bytes receipt attached : List ℕ) (s : Statement) (r : Receipt) (entries : List (List ℕ)) (index at rule : ℕ) (v : Verdict)
    → StatementOf bytes s → IsBelieved trust s → receipt_of receipt ≡ Some r → ShowsEntry trust r entries index at rule s.logged
    → Attaches bytes receipt (Ok attached) → Accepts trust attached v → (v.statement ≡ Fine) × (v.accepted ≡ true)

-- a receipt shows, by the standard's proof, that a list of entries grew from its first m
pub record ShowsGrowth (trust : Trust) (r : Receipt) (entries : List (List ℕ)) (m : ℕ) : Type 0 where
  pub size : r.size ≡ length entries
  pub proof : r.proof ≡ Consistency m (length entries) (proof_of m entries)
  pub some : 0 < m
  pub within : m ≤ length entries
  pub key : List ℕ
  pub trusted : service_key trust r ≡ Some key
  pub signed : signs_root key r (mth entries) ≡ true

-- such a receipt is accepted by whoever has the root of the first m
abbrev pub GrownIsConsistent : Type 0
GrownIsConsistent = (trust : Trust) (bytes : List ℕ) (r : Receipt) (entries : List (List ℕ)) (m : ℕ) → receipt_of bytes ≡ Some r
    → ShowsGrowth trust r entries m → consistency_result trust bytes m (mth (take m entries)) ≡ Consistent (length entries) (mth entries)
