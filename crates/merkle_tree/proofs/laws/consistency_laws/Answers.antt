use Rattle.std.proofs.Common.{◌≡◌, ℕ, ◌&&◌, List, length, take, reverse, true, refl, subst, inl, inr, nat_lt, nat_le}
use Rattle.std.specs.Prelude.{None, Some}
use Rattle.std.proofs.lemmas.Bool.{ltb-true, leb-true, and_parts}
use Rattle.merkle_tree.specs.Consistency.{roots_down, roots_from}
use Rattle.merkle_tree.specs.Mth.{mth}
use Rattle.merkle_tree.specs.Inputs.{Collides, pair_inputs, proof_inputs, tree_inputs}
use Rattle.merkle_tree.proofs.Collisions.{given_if, nothing, apart_from, front_of}
use Rattle.merkle_tree.proofs.laws.consistency_laws.Goals as goal

begins : (m n : ℕ) (old : List ℕ) (roots : List ℕ × List ℕ) (path entries more : List (List ℕ)) → roots_from m n old path ≡ Some roots
    → length entries ≡ m → length more ≡ n → mth entries ≡ roots.0 → mth more ≡ roots.1
    → (Collides (proof_inputs m n old path) (tree_inputs entries) → ⊥)
    → (Collides (proof_inputs m n old path) (tree_inputs more) → ⊥)
    → (Collides (tree_inputs entries) (tree_inputs more) → ⊥)
    → take m more ≡ entries
begins m n old roots path entries more leads len_a len_b is_a is_b with_a with_b apart =
    elim (given_if (nat_lt 0 m && nat_le m n) (roots_down m n true old (reverse path)) None roots leads) [
      | inl within ↦
          let tests = and_parts (nat_lt 0 m) (nat_le m n) within.0 in
          let strings : proof_inputs m n old path ≡ pair_inputs m n true old (reverse path) = rw within.0 refl in
          let apart_a = apart_from _ _ (subst (λ s. Collides s (tree_inputs entries) → ⊥) strings with_a) in
          let apart_b = apart_from _ _ (subst (λ s. Collides s (tree_inputs more) → ⊥) strings with_b) in
          front_of (reverse path) m n true old roots entries more (ltb-true 0 m tests.0) (leb-true m n tests.1) len_a len_b within.1 is_a is_b apart_a apart_b (apart_from _ _ apart)
      | inr past ↦ absurd (nothing roots past.1)
    ]

pub returns : goal.returns
returns c = record { begins = begins }
