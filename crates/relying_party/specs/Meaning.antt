-- What an accepted receipt means, where nothing that is hashed collides.
use Rattle.std.specs.Prelude.{◌≡◌, ℕ, ◌≤◌, List, length, take, slice_get, Some}
use Rattle.merkle_tree.specs.Mth.{mth}
use Rattle.merkle_tree.specs.Inputs.{Collides, path_inputs, proof_inputs, tree_inputs}
use Rattle.statement.specs.declared.statement_type.Statement.{Statement}
use Rattle.statement.specs.Parsed.{StatementOf}
use Rattle.receipts.specs.declared.receipt.Receipt.{Receipt}
use Rattle.receipts.specs.declared.receipt.Proof.{Proof}
use Rattle.receipts.specs.declared.receipt.Proof.TheVariants.{Inclusion, Consistency}
use Rattle.receipts.specs.Form.{receipt_of}
use Rattle.relying_party.specs.declared.trust.Trust.{Trust}
use Rattle.relying_party.specs.declared.answers.ReceiptResult.{ReceiptResult}
use Rattle.relying_party.specs.declared.answers.ReceiptResult.TheVariants.{Accepted, Refused}
use Rattle.relying_party.specs.declared.answers.ConsistencyResult.{ConsistencyResult}
use Rattle.relying_party.specs.declared.answers.ConsistencyResult.TheVariants as growth
use Rattle.relying_party.specs.declared.answers.Verdict.{Verdict}
use Rattle.relying_party.specs.Entries.{entry_bytes}
use Rattle.relying_party.specs.Accepts.{receipt_result}
use Rattle.relying_party.specs.Growth.{consistency_result}

-- bytes are a receipt with this proof
abbrev pub HasProof : List ℕ → Proof → Type 0
HasProof bytes proof = (r : Receipt) × (receipt_of bytes ≡ Some r) × (r.proof ≡ proof)

-- whatever list begins with `size` entries of this root has the entry at its index
abbrev pub StandsAt : List ℕ → ℕ → List ℕ → ℕ → List (List ℕ) → Type 0
StandsAt entry size root index path =
    (entries : List (List ℕ)) → size ≤ length entries → mth (take size entries) ≡ root
    → (Collides (path_inputs index size entry path) (tree_inputs (take size entries)) → ⊥)
    → slice_get entries index ≡ Some entry

-- what a receipt's result means for the statement with this logged form
abbrev pub Means : List ℕ → List ℕ → ReceiptResult → Type 0
Means logged bytes (Accepted size root index at rule) =
    (path : List (List ℕ)) × HasProof bytes (Inclusion size index path at rule) × StandsAt (entry_bytes at rule logged) size root index path
Means logged bytes (Refused rule) = Unit {0}

abbrev pub ReceiptsMeanEntries : Type 0
ReceiptsMeanEntries = (trust : Trust) (logged bytes : List ℕ) → Means logged bytes (receipt_result trust logged bytes)

-- what a verdict's results mean, each for its receipt
abbrev pub MeansEntries : List ℕ → Verdict → Type 0
MeansEntries bytes v =
    (s : Statement) (k : ℕ) (receipt : List ℕ) (result : ReceiptResult) → StatementOf bytes s
    → slice_get s.receipts k ≡ Some receipt → slice_get v.receipts k ≡ Some result → Means s.logged receipt result

-- whatever lists have these sizes and roots, the longer one begins with the other
abbrev pub Begins : ℕ → List ℕ → ℕ → List ℕ → List (List ℕ) → Type 0
Begins old old_root size root path =
    (entries more : List (List ℕ)) → length entries ≡ old → length more ≡ size → mth entries ≡ old_root → mth more ≡ root
    → (Collides (proof_inputs old size old_root path) (tree_inputs entries) → ⊥)
    → (Collides (proof_inputs old size old_root path) (tree_inputs more) → ⊥)
    → (Collides (tree_inputs entries) (tree_inputs more) → ⊥)
    → take old more ≡ entries

-- what the answer to a consistency receipt means
abbrev pub MeansGrowth : List ℕ → ℕ → List ℕ → ConsistencyResult → Type 0
MeansGrowth bytes old old_root (growth.Consistent size root) =
    (path : List (List ℕ)) × HasProof bytes (Consistency old size path) × Begins old old_root size root path
MeansGrowth bytes old old_root (growth.Refused rule) = Unit {0}

abbrev pub ReceiptsMeanGrowth : Type 0
ReceiptsMeanGrowth = (trust : Trust) (bytes : List ℕ) (old : ℕ) (old_root : List ℕ) → MeansGrowth bytes old old_root (consistency_result trust bytes old old_root)
