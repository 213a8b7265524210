-- The roots of whole subtrees that a table keeps beside its leaves.
use Rattle.std.specs.Prelude.{◌≡◌, ℕ, suc, ◌+◌, ◌*◌, ◌^◌, ◌≤◌, List, [], length, take, drop, slice_index_or}
use Rattle.merkle_tree.specs.Mth.{tree_root}

-- the root of a run of so many leaves from a place on
abbrev pub root_of_run : List (List ℕ) → ℕ → ℕ → List ℕ
root_of_run leaves from len = tree_root (take len (drop from leaves))

-- each whole subtree of 2 ^ (i + 1) leaves, the q-th of its kind, has its root at the place of its middle, which no
-- other whole subtree has
abbrev pub HasInner : List (List ℕ) → List (List ℕ) → Type 0
HasInner leaves inner = (i q : ℕ) → 2 ^ suc i * suc q ≤ length leaves → slice_index_or inner (2 ^ i * (2 * q + 1)) [] ≡ root_of_run leaves (2 ^ suc i * q) (2 ^ suc i)

-- the same of all but those that end with the last leaf and have more than 2 ^ j leaves
abbrev pub HasInnerUpTo : ℕ → List (List ℕ) → List (List ℕ) → Type 0
HasInnerUpTo j leaves inner = (i q : ℕ) → 2 ^ suc i * suc q ≤ length leaves → (2 ^ suc i * suc q ≡ length leaves → suc i ≤ j)
    → slice_index_or inner (2 ^ i * (2 * q + 1)) [] ≡ root_of_run leaves (2 ^ suc i * q) (2 ^ suc i)

-- a run begins at a multiple of a power of two that it doesn't exceed, as the parts of the standard's recursion do
pub record IsAligned (from len : ℕ) : Type 0 where
  pub power : ℕ
  pub count : ℕ
  pub most : len ≤ 2 ^ power
  pub place : from ≡ 2 ^ power * count
