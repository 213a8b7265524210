use Rattle.std.proofs.Common.{◌≡◌, ℕ, ◌+◌, ◌<◌, [], slice_index_or}
use Rattle.lms_ots.specs.OneTime.{ots_key}
use Rattle.lms_tree.specs.Nodes.{key_name, leaf}
use Rattle.lms_tree.proofs.growing.fill_leaves.Given as goal

abbrev pub invariant-loop-q : goal.invariant-loop-q
invariant-loop-q l = (k : ℕ) → k < l.q
    → slice_index_or l.nodes (l.first + k) [] ≡ leaf l.id (l.first + k) (ots_key l.level.ots (key_name l.id k) l.seed)
