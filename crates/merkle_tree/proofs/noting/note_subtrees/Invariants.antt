use Rattle.std.proofs.Common.{◌≡◌, ◌-◌, ◌<◌, ◌≤◌, length}
use Rattle.merkle_tree.proofs.NoteLaws.{Notes}
use Rattle.merkle_tree.proofs.noting.note_subtrees.Given as goal

abbrev pub invariant-loop-half : goal.invariant-loop-half
invariant-loop-half l = Notes l.leaves l.inner l.half l.node × (0 < l.half) × (l.half ≤ l.size) × (l.size ≡ length l.leaves)

abbrev pub decreases-loop-half : goal.decreases-loop-half
decreases-loop-half l = l.size - l.half
