-- Each turn writes one leaf.
use Rattle.std.proofs.Common.{◌≡◌, ◌≢◌, ◌+◌, ◌*◌, ◌<◌, [], length, below_more, arith, ◌∙◌}
use Rattle.std.proofs.lemmas.List.{get_or-set_same, get_or-set_other}
use Rattle.lms_tree.specs.Types.{leaf_count}
use Rattle.lms_tree.proofs.TreeLaws.{leaves_held}
use Rattle.lms_tree.proofs.growing.fill_leaves.Goals as goal

pub loop-q-preserved : goal.loop-q-preserved
loop-q-preserved c =
    let first = c.leaf_count-first.result in
    let here = rw c.ots_key_into-key.ensures at c.leaf.ensures in
    below_more _ _
    (λ k h. let other : first + k ≢ first + c.loop-q.q = omega arith in get_or-set_other c.loop-q.nodes (first + c.loop-q.q) (first + k) c.leaf.result [] other ∙ c.loop-q.invariant k h)
    (let within : first + c.loop-q.q < length c.loop-q.nodes = omega (arith, c.leaf_count-first.ensures.value) in get_or-set_same c.loop-q.nodes (first + c.loop-q.q) c.leaf.result [] within ∙ here)

pub returns : goal.returns
returns c =
    let first = c.leaf_count-first.ensures.value in
    let whole : length c.loop-q.nodes ≡ 2 * leaf_count c.args.level = omega (arith, c.loop-q.auto.nodes) in
    leaves_held c.args.level c.args.id c.args.seed.now c.loop-q.nodes whole (λ k h. rw first at (c.loop-q.invariant k (omega (arith, first))))
