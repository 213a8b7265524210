use Rattle.std.proofs.Common.{◌≡◌, ℕ, ◌<◌, ◌≤◌, List, [], length, take, reverse, arith, refl, sym, ap, subst, ◌∙◌, inl, inr, nat_lt, get_or, get_or-take, length-take-le}
use Rattle.std.specs.Prelude.{None, Some, slice_get}
use Rattle.std.proofs.lemmas.Bool.{ltb-true}
use Rattle.std.proofs.lemmas.Option.{slice_get-get_or}
use Rattle.merkle_tree.specs.Mth.{leaf_hash, mth}
use Rattle.merkle_tree.specs.Paths.{root_down, root_from}
use Rattle.merkle_tree.specs.Inputs.{Collides, inputs_down, path_inputs, tree_inputs}
use Rattle.merkle_tree.proofs.Collisions.{given_if, nothing, apart_from, entry_at}
use Rattle.merkle_tree.proofs.laws.inclusion_laws.Goals as goal

stands : (m n : ℕ) (entry root : List ℕ) (path entries : List (List ℕ)) → root_from m n (leaf_hash entry) path ≡ Some root
    → length entries ≡ n → mth entries ≡ root → (Collides (path_inputs m n entry path) (tree_inputs entries) → ⊥) → (m < n) × (get_or entries m [] ≡ entry)
stands m n entry root path entries leads len is none = elim (given_if (nat_lt m n) (root_down m n (leaf_hash entry) (reverse path)) None root leads) [
  | inl below ↦
      let lt : m < n = ltb-true m n below.0 in
      let strings : path_inputs m n entry path ≡ inputs_down m n entry (reverse path) = rw below.0 refl in
      let apart = apart_from _ _ (subst (λ s. Collides s (tree_inputs entries) → ⊥) strings none) in
      (lt, entry_at (reverse path) m n entry root entries lt len below.1 is apart)
  | inr past ↦ absurd (nothing root past.1)
]

included : (m n : ℕ) (entry root : List ℕ) (path entries : List (List ℕ)) → root_from m n (leaf_hash entry) path ≡ Some root
    → length entries ≡ n → mth entries ≡ root → (Collides (path_inputs m n entry path) (tree_inputs entries) → ⊥) → slice_get entries m ≡ Some entry
included m n entry root path entries leads len is none =
    let there = stands m n entry root path entries leads len is none in
    slice_get-get_or entries m [] (omega (arith, there.0)) ∙ ap Some there.1

longer : (m n : ℕ) (entry root : List ℕ) (path entries : List (List ℕ)) → root_from m n (leaf_hash entry) path ≡ Some root
    → n ≤ length entries → mth (take n entries) ≡ root → (Collides (path_inputs m n entry path) (tree_inputs (take n entries)) → ⊥) → slice_get entries m ≡ Some entry
longer m n entry root path entries leads most is none =
    let there = stands m n entry root path (take n entries) leads (length-take-le n entries most) is none in
    slice_get-get_or entries m [] (omega (arith, there.0)) ∙ ap Some (sym (get_or-take n entries m [] there.0) ∙ there.1)

pub returns : goal.returns
returns c = record { included = included; longer = longer }
