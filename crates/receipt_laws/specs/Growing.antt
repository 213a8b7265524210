-- What an accepted consistency receipt says of logs that have its roots, and the consistency receipts that a log answers.
use Rattle.std.specs.Prelude.{◌≡◌, ℕ, ◌<◌, ◌≤◌, List, length, take, Some}
use Rattle.merkle_tree.specs.Mth.{mth}
use Rattle.merkle_tree.specs.Inputs.{Collides, proof_inputs, tree_inputs}
use Rattle.receipts.specs.declared.receipt.Receipt.{Receipt}
use Rattle.receipts.specs.declared.receipt.Proof.TheVariants.{Consistency}
use Rattle.receipts.specs.Form as form
use Rattle.log_replay.specs.declared.parts.Header.{Header}
use Rattle.log_replay.specs.Records.{Log, header_of, leaves_of, entries_of}
use Rattle.log_replay.specs.WellMade.{WellMade}
use Rattle.log_replay.specs.Answers.{consistency_of}
use Rattle.relying_party.specs.declared.trust.Trust.{Trust}
use Rattle.relying_party.specs.declared.answers.ConsistencyResult.TheVariants.{Consistent}
use Rattle.relying_party.specs.Converse.{ShowsGrowth}
use Rattle.relying_party.specs.Growth.{AcceptsConsistency}
use Rattle.relying_party.specs.Meaning.{HasProof}
use Rattle.receipt_laws.specs.Own.{AreBytes, KnowsService}

-- a well made log has at least so many entries, and the first of them, so many, have this root
pub record HasFront (R : Log) (size : ℕ) (root : List ℕ) : Type 0 where
  pub sound : WellMade R
  pub within : size ≤ length (entries_of R)
  pub front : mth (take size (leaves_of R)) ≡ root

-- two logs have the same first entries, so many of them, and the same byte strings of these
pub record BeginAlike (A R : Log) (old : ℕ) : Type 0 where
  pub leaves : take old (leaves_of R) ≡ take old (leaves_of A)
  pub entries : take old (entries_of R) ≡ take old (entries_of A)

-- whatever well made logs have the older and the newer root at their sizes begin alike, where nothing that is hashed collides
abbrev pub GrewFrom : ℕ → List ℕ → ℕ → List ℕ → List (List ℕ) → Type 0
GrewFrom old old_root size root path =
    (A R : Log) → HasFront A old old_root → HasFront R size root
    → (Collides (proof_inputs old size old_root path) (tree_inputs (take old (leaves_of A))) → ⊥)
    → (Collides (proof_inputs old size old_root path) (tree_inputs (take size (leaves_of R))) → ⊥)
    → (Collides (tree_inputs (take old (leaves_of A))) (tree_inputs (take size (leaves_of R))) → ⊥)
    → (old ≤ size) × BeginAlike A R old

-- that is what an accepted consistency receipt says, with the proof that it has
abbrev pub ConsistentIsOfTheLogs : Type 0
ConsistentIsOfTheLogs =
    (trust : Trust) (bytes : List ℕ) (old : ℕ) (old_root : List ℕ) (size : ℕ) (root : List ℕ) → AcceptsConsistency trust bytes old old_root (Consistent size root)
    → (path : List (List ℕ)) × HasProof bytes (Consistency old size path) × GrewFrom old old_root size root path

-- what a log answers as its consistency receipt after an older size is one, and shows that all its entries grew from the first ones, so many of them, to
-- whoever trusts the log's key
pub record IsConsistencyOf (R : Log) (h : Header) (old : ℕ) (receipt : List ℕ) (r : Receipt) : Type 0 where
  pub answered : consistency_of R old ≡ Some receipt
  pub reads : form.receipt_of receipt ≡ Some r
  pub shows : (trust : Trust) → KnowsService trust h → ShowsGrowth trust r (leaves_of R) old

-- a well made log has such a receipt for each older size
abbrev pub SizesHaveConsistency : Type 0
SizesHaveConsistency = (R : Log) (h : Header) (old : ℕ) → AreBytes R → WellMade R → header_of R ≡ Some h → 0 < old → old ≤ length (entries_of R)
    → (receipt : List ℕ) × (r : Receipt) × IsConsistencyOf R h old receipt r

-- and it is accepted after the root of the first entries, with the size and root of the whole log
abbrev pub OwnConsistencyIsAccepted : Type 0
OwnConsistencyIsAccepted =
    (R : Log) (h : Header) (old : ℕ) (receipt : List ℕ) (trust : Trust) → AreBytes R → WellMade R → header_of R ≡ Some h → 0 < old → old ≤ length (entries_of R)
    → consistency_of R old ≡ Some receipt → KnowsService trust h
    → AcceptsConsistency trust receipt old (mth (take old (leaves_of R))) (Consistent (length (entries_of R)) (mth (leaves_of R)))
