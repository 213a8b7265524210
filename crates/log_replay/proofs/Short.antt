-- The strings of a statement are short.
use Rattle.std.proofs.Common.{ℕ, ◌≤◌, List, length, inl, inr, arith}
use Rattle.std.proofs.lemmas.Bool.{cases_lt}
use Rattle.std.proofs.lemmas.Grind.{not_there}
use Rattle.statement.specs.declared.names.Names.{Names}
use Rattle.statement.specs.Statements.{Reads}

pub protected_short : (bytes protected payload signature : List ℕ) (names : Names) (receipts : List (List ℕ)) → ∥ Reads bytes names protected payload signature receipts ∥₁ → length protected ≤ 4198400
protected_short bytes protected payload signature names receipts reads = elim (cases_lt 4198400 (length protected)) [
  | inl long ↦ absurd (not_there reads (λ r. omega (arith, r.7, long)))
  | inr short ↦ short
]

pub payload_short : (bytes protected payload signature : List ℕ) (names : Names) (receipts : List (List ℕ)) → ∥ Reads bytes names protected payload signature receipts ∥₁ → length payload ≤ 4198400
payload_short bytes protected payload signature names receipts reads = elim (cases_lt 4198400 (length payload)) [
  | inl long ↦ absurd (not_there reads (λ r. omega (arith, r.7, long)))
  | inr short ↦ short
]
