-- What a receipt that fails no rule means.
use Rattle.std.proofs.Common.{◌≡◌, ℕ, ◌≤◌, Bool, true, false, not, List, [], ◌∷◌, length, take, Option, Some, None, refl}
use Rattle.std.specs.Prelude.{is_none, option_map, option_and_then, unwrap_or, slice_get}
use Rattle.cbor_core.specs.Rows.{first_row}
use Rattle.merkle_tree.specs.Mth.{leaf_hash, mth}
use Rattle.merkle_tree.specs.Paths.{root_from}
use Rattle.merkle_tree.specs.Inputs.{Collides, path_inputs, tree_inputs}
use Rattle.receipts.specs.declared.receipt.Receipt.{Receipt}
use Rattle.receipts.specs.declared.receipt.Proof.{Proof}
use Rattle.receipts.specs.declared.receipt.Proof.TheVariants.{Inclusion, Consistency}
use Rattle.receipts.specs.Form.{receipt_of}
use Rattle.relying_party.specs.declared.trust.Trust.{Trust}
use Rattle.relying_party.specs.declared.answers.ReceiptResult.TheVariants.{Accepted, Refused}
use Rattle.relying_party.specs.Entries.{entry_bytes}
use Rattle.relying_party.specs.Accepts.{service_key, Included, included_by, root_of, has_size, has_index, is_signed, result_by}
use Rattle.relying_party.specs.Meaning.{Means, ReceiptsMeanEntries}

-- the tree's law: an entry that leads to the root of a list's front stands in the list
abbrev pub Longer : Type 0
Longer = (m n : ℕ) (entry root : List ℕ) (path entries : List (List ℕ)) → root_from m n (leaf_hash entry) path ≡ Some root
    → n ≤ length entries → mth (take n entries) ≡ root → (Collides (path_inputs m n entry path) (tree_inputs (take n entries)) → ⊥)
    → slice_get entries m ≡ Some entry

module _ (longer : Longer) (trust : Trust) (logged bytes : List ℕ) (r : Receipt) (read : receipt_of bytes ≡ Some r) where
  by_rows : (size index : ℕ) (path : List (List ℕ)) (at rule : ℕ) → r.proof ≡ Inclusion size index path at rule
      → (key : Option (List ℕ)) (b4 b5 : Bool) (root : Option (List ℕ)) (b7 : Bool) → root_from index size (leaf_hash (entry_bytes at rule logged)) path ≡ root
      → Means logged bytes (unwrap_or (option_map Refused (first_row ((false, 1) ∷ (false, 2) ∷ (is_none key, 3) ∷ (b4, 4) ∷ (b5, 5) ∷ (is_none root, 6) ∷ (b7, 7) ∷ []))) (Accepted size (unwrap_or root []) index at rule))
  by_rows size index path at rule is None b4 b5 root b7 leads = tt
  by_rows size index path at rule is (Some key) true b5 root b7 leads = tt
  by_rows size index path at rule is (Some key) false true root b7 leads = tt
  by_rows size index path at rule is (Some key) false false None b7 leads = tt
  by_rows size index path at rule is (Some key) false false (Some root) true leads = tt
  by_rows size index path at rule is (Some key) false false (Some root) false leads =
      (path, (r, read, is), λ entries most same none. longer index size (entry_bytes at rule logged) root path entries leads most same none)

  by_proof : (p : Proof) → r.proof ≡ p → Means logged bytes (result_by trust logged (Some r) (included_by p))
  by_proof (Consistency old size path) is = tt
  by_proof (Inclusion size index path at rule) is =
      let i : Included = record { size = size; index = index; path = path; at = at; rule = rule } in
      let root = root_of logged i in
      by_rows size index path at rule is (service_key trust r) (not (has_size (Some r) (Some i))) (not (has_index (Some i))) root (not (is_signed (service_key trust r) (Some r) root)) refl

by_read : Longer → (trust : Trust) (logged bytes : List ℕ) (o : Option Receipt) → receipt_of bytes ≡ o → Means logged bytes (result_by trust logged o (option_and_then (λ (r : Receipt). included_by r.proof) o))
by_read longer trust logged bytes None read = tt
by_read longer trust logged bytes (Some r) read = by_proof longer trust logged bytes r read r.proof refl

pub receipts_mean : Longer → ReceiptsMeanEntries
receipts_mean longer trust logged bytes = by_read longer trust logged bytes (receipt_of bytes) refl
