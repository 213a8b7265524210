use Rattle.std.proofs.Common.{arith}
use Rattle.std.proofs.lemmas.Result.{on_ok_weaker}
use Rattle.merkle_tree.proofs.RunRoots.{aligned_right}
use Rattle.merkle_tree.proofs.RunSteps.{path_short, path_left, path_right}
use Rattle.merkle_tree.proofs.runs.Runs.+put_path.Goals as goal

pub returns-then-len-lt2 : goal.returns-then-len-lt2
returns-then-len-lt2 t c = path_short c.args.index c.args.from c.args.len c.args.self.now c.args.path.now c.if-len-lt2.true c.requires.within

pub root-requires-clause-aligned : goal.root-requires-clause-aligned
root-requires-clause-aligned t c = aligned_right c.args.from c.args.len c.split_point-point.result (omega arith) c.split_point-point.ensures.point c.requires.aligned

pub put_path-requires-else-index-point : goal.put_path-requires-else-index-point
put_path-requires-else-index-point t c =
    let inside = c.split_point-point.ensures.inside in (
      omega (arith, inside.0, inside.1, c.decreases),
      (
        omega (arith, c.requires.inside),
        (c.requires.few, (omega (arith, inside.1, c.requires.within), aligned_right c.args.from c.args.len c.split_point-point.result (omega arith) c.split_point-point.ensures.point c.requires.aligned)),
      ),
    )

pub returns-in_ok-put_path : goal.returns-in_ok-put_path
returns-in_ok-put_path t c = on_ok_weaker _
    (path_left c.args.index c.args.from c.args.len c.split_point-point.result c.args.self.now c.args.path.now _ _ _ c.if-len-lt2.false c.requires.within c.split_point-point.ensures.point c.if-index-point.true c.root.ensures c.in_ok-put_path.ensures)
    c.push.ensures.ok

pub returns-in_ok-put_path-2 : goal.returns-in_ok-put_path-2
returns-in_ok-put_path-2 t c = on_ok_weaker _
    (path_right c.args.index c.args.from c.args.len c.split_point-point.result c.args.self.now c.args.path.now _ _ _ c.if-len-lt2.false c.requires.within c.split_point-point.ensures.point c.if-index-point.false c.root-else-index-point.ensures c.in_ok-put_path-2.ensures)
    c.push-else-index-point.ensures.ok
