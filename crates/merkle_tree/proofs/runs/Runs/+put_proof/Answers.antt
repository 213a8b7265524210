use Rattle.std.proofs.Common.{arith}
use Rattle.std.proofs.lemmas.Result.{on_ok_weaker}
use Rattle.merkle_tree.proofs.RunRoots.{aligned_right}
use Rattle.merkle_tree.proofs.RunSteps.{sub_whole, sub_part, sub_left, sub_right}
use Rattle.merkle_tree.proofs.runs.Runs.+put_proof.Goals as goal

pub returns-then-whole : goal.returns-then-whole
returns-then-whole t c = sub_whole c.args.old c.args.from c.args.len c.args.whole c.args.self.now c.args.path.now c.requires.within c.requires.some c.if-old-len.true c.if-whole.true

pub returns-then-old-len : goal.returns-then-old-len
returns-then-old-len t c = on_ok_weaker _
    (sub_part c.args.old c.args.from c.args.len c.args.whole c.args.self.now c.args.path.now _ _ c.requires.within c.requires.some c.if-old-len.true c.if-whole.false c.root.ensures)
    c.push.ensures.ok

pub root-requires-then-old-point-clause-aligned : goal.root-requires-then-old-point-clause-aligned
root-requires-then-old-point-clause-aligned t c = aligned_right c.args.from c.args.len c.split_point-point.result (omega arith) c.split_point-point.ensures.point c.requires.aligned

pub put_proof-requires-else-old-point : goal.put_proof-requires-else-old-point
put_proof-requires-else-old-point t c =
    let inside = c.split_point-point.ensures.inside in (
      omega (arith, inside.0, inside.1, c.decreases),
      (
        omega (arith, c.requires.inside),
        (
          omega (arith, c.requires.inside),
          (c.requires.few, (omega (arith, inside.1, c.requires.within), aligned_right c.args.from c.args.len c.split_point-point.result (omega arith) c.split_point-point.ensures.point c.requires.aligned)),
        ),
      ),
    )

pub returns-in_ok-put_proof : goal.returns-in_ok-put_proof
returns-in_ok-put_proof t c = on_ok_weaker _
    (sub_left c.args.old c.args.from c.args.len c.split_point-point.result c.args.whole c.args.self.now c.args.path.now _ _ _ c.requires.within c.requires.some (omega arith) c.split_point-point.ensures.point c.if-old-point.true c.root-then-old-point.ensures c.in_ok-put_proof.ensures)
    c.push-then-old-point.ensures.ok

pub returns-in_ok-put_proof-2 : goal.returns-in_ok-put_proof-2
returns-in_ok-put_proof-2 t c = on_ok_weaker _
    (sub_right c.args.old c.args.from c.args.len c.split_point-point.result c.args.whole c.args.self.now c.args.path.now _ _ _ c.requires.within c.requires.some (omega arith) c.split_point-point.ensures.point c.if-old-point.false c.root-else-old-point.ensures c.in_ok-put_proof-2.ensures)
    c.push-else-old-point.ensures.ok
