use Rattle.std.proofs.Common.{◌≡◌, ◌*◌, ℕ, List, length}
use Rattle.lms_tree.specs.Types.{leaf_count}
use Rattle.lms_tree.specs.Trees.{HoldsNodes}
use Rattle.lms_tree.proofs.growing.fill_inner.Given as goal

abbrev pub invariant-loop-r : goal.invariant-loop-r
invariant-loop-r l = record {
  whole : length l.nodes ≡ 2 * leaf_count l.fn.level;
  held : (seed : List ℕ) → HoldsNodes l.fn.level l.id seed l.initial.nodes (leaf_count l.fn.level)
      → HoldsNodes l.fn.level l.id seed l.nodes l.r;
}
