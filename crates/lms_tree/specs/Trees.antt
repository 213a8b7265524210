-- What a tree keeps: its nodes, each at the place of its number.
use Rattle.std.specs.Prelude.{◌≡◌, ℕ, suc, ◌+◌, ◌*◌, ◌^◌, ◌<◌, ◌≤◌, List, [], length, slice_index_or}
use Rattle.lms_tree.specs.declared.types.Level.{Level}
use Rattle.lms_tree.specs.Types.{height, leaf_count}
use Rattle.lms_tree.specs.Nodes.{node}

-- a tree, as contracts see it
pub record TreeKey : Type 0 where
  pub level : Level
  pub id : List ℕ
  pub seed : List ℕ

-- from number `low` on each node of the tree stands at the place of its number: those at depth d,
-- which are the numbers from 2^d up to 2^(d+1), `up` levels above the leaves
pub record HoldsNodes (level : Level) (id seed : List ℕ) (nodes : List (List ℕ)) (low : ℕ) : Type 0 where
  pub count : length nodes ≡ 2 * leaf_count level
  pub each : (up d r : ℕ) → up + d ≡ height level → 2 ^ d ≤ r → r < 2 ^ suc d → low ≤ r
      → slice_index_or nodes r [] ≡ node level id seed up r

-- what a tree of this level, identifier and seed keeps
pub record IsTree (level : Level) (id seed : List ℕ) (nodes : List (List ℕ)) : Type 0 where
  pub named : length id ≡ 16
  pub held : HoldsNodes level id seed nodes 1
