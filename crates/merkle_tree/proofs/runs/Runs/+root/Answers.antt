use Rattle.std.proofs.Common.{[], sym, ap, ◌∙◌, arith}
use Rattle.std.proofs.lemmas.Option.{get_or_from_slice_get}
use Rattle.merkle_tree.specs.Subtrees.{root_of_run}
use Rattle.merkle_tree.proofs.Roots.{node_of}
use Rattle.merkle_tree.proofs.RunRoots.{run_one, run_inner, run_front, run_node, aligned_right}
use Rattle.merkle_tree.proofs.runs.Runs.+root.Goals as goal

pub returns-then-len-eq1 : goal.returns-then-len-eq1
returns-then-len-eq1 t c =
    let all = c.args.self.now in
    sym (get_or_from_slice_get all c.args.from c.leaf.result [] c.leaf.ensures) ∙ run_one c.args.from all (omega (arith, c.requires.some, c.requires.within))
    ∙ ap (λ n. root_of_run all c.args.from n) (sym c.if-len-eq1.true)

pub returns-then-from-len : goal.returns-then-from-len
returns-then-from-len t c =
    let seen = c.self.inside in
    run_inner c.args.from c.args.len c.split_point-point.result seen.leaves.now seen.inner.now (omega arith) c.split_point-point.ensures.point c.if-len-point.true c.requires.aligned c.if-from-len.true c.self.invariant.0
    ∙ sym (run_front c.args.from c.args.len seen.leaves.now seen.more.now c.if-from-len.true)
    ∙ ap (λ all. root_of_run all c.args.from c.args.len) c.self.view_is

pub root-requires-2 : goal.root-requires-2
root-requires-2 t c =
    let inside = c.split_point-point.ensures.inside in (
      omega (arith, inside.0, inside.1, c.decreases),
      (
        omega (arith, inside.1),
        (omega (arith, inside.1, c.requires.within), aligned_right c.args.from c.args.len c.split_point-point.result (omega arith) c.split_point-point.ensures.point c.requires.aligned),
      ),
    )

pub returns : goal.returns
returns t c =
    c.node_hash.ensures ∙ node_of _ _ _ _ c.root.ensures c.root-2.ensures
    ∙ sym (run_node c.args.from c.args.len c.split_point-point.result c.args.self.now (omega arith) c.requires.within c.split_point-point.ensures.point)
