-- Each turn notes the root of one subtree more that the last leaf ends.
use Rattle.std.proofs.Common.{◌≡◌, ◌-◌, ◌*◌, refl, ◌∙◌, length, arith}
use Rattle.merkle_tree.specs.Subtrees.{root_of_run}
use Rattle.merkle_tree.proofs.NoteLaws.{notes_first, notes_next, notes_end, left_leaf, left_inner}
use Rattle.merkle_tree.proofs.noting.note_subtrees.Goals as goal
use Rattle.merkle_tree.proofs.noting.note_subtrees.Goals.{then-half-eq1, else-half-eq1}

pub loop-half-init : goal.loop-half-init
loop-half-init c = (notes_first c.args.leaves.now c.args.inner.now c.requires.some c.requires.places c.requires.before, omega arith, omega (arith, c.requires.some), refl)

pub loop-half-preserved : goal.loop-half-preserved
loop-half-preserved c =
    let leaves = c.args.leaves.now in
    let half = c.loop-half.half in
    let left : c.if-half-eq1.left ≡ root_of_run leaves (length leaves - 2 * half) half = elim c.if-half-eq1.branch [
      | then-half-eq1 w ↦ w.left-is ∙ left_leaf leaves half w.if-half-eq1.true c.requires.some c.loop-half-test.true
      | else-half-eq1 w ↦ w.left-is ∙ left_inner leaves c.loop-half.inner half c.loop-half.node c.loop-half.invariant.0 w.if-half-eq1.false c.requires.some c.loop-half-test.true
    ] in
    let next = notes_next leaves c.loop-half.inner half c.loop-half.node c.if-half-eq1.left c.node_hash-node.result c.loop-half.invariant.0 c.requires.some c.loop-half-test.true left c.node_hash-node.ensures in
    (next.0, omega (arith, c.loop-half.invariant.1), next.1, refl)

pub returns : goal.returns
returns c = notes_end c.args.leaves.now c.loop-half.inner c.loop-half.half c.loop-half.node c.loop-half.invariant.0 c.loop-half-test.false
