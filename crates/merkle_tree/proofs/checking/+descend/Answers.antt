use Rattle.merkle_tree.proofs.Descents.{down_none, down_few, down_left, down_right}
use Rattle.merkle_tree.proofs.checking.+descend.Goals as goal

pub returns-in_default : goal.returns-in_default
returns-in_default t c = down_none _ _ _ _ _ c.in_default.ensures.cases c.then_some.ensures

pub returns-then-size-lt2 : goal.returns-then-size-lt2
returns-then-size-lt2 t c = down_few _ _ _ _ _ _ c.in-Some.ensures.cases.0 c.if-size-lt2.true

pub returns-then-index-point : goal.returns-then-index-point
returns-then-index-point t c = down_left _ _ _ _ _ _ _ _ _ c.in-Some.ensures.cases.0 c.if-size-lt2.false c.split_point-point.ensures.point c.if-index-point.true c.descend.ensures c.with_right.ensures

pub returns : goal.returns
returns t c = down_right _ _ _ _ _ _ _ _ _ c.in-Some.ensures.cases.0 c.if-size-lt2.false c.split_point-point.ensures.point c.if-index-point.false c.descend-2.ensures c.with_left.ensures
