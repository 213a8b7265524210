use Rattle.std.proofs.Common.{◌≡◌, ℕ, ◌+◌, ◌*◌, ◌/◌, ◌^◌, ◌++◌, List, take}
use Rattle.lms_ots.specs.Words.{joined}
use Rattle.lms_tree.specs.Types.{leaf_count}
use Rattle.lms_tree.specs.Nodes.{path_node}
use Rattle.lms_tree.specs.Trees.{HoldsNodes}
use Rattle.lms_tree.proofs.growing.write_path.Given as goal

abbrev pub invariant-loop : goal.invariant-loop
invariant-loop l = record {
  number : l.number ≡ (leaf_count l.fn.level + l.q) / 2 ^ l.counter;
  reached : l.place ≡ l.start + 32 * l.counter;
  written : (id seed : List ℕ) → HoldsNodes l.fn.level id seed l.nodes 1
      → take l.place l.buf ≡ take l.start l.initial.buf ++ joined (path_node l.fn.level id seed l.q) l.counter;
}
