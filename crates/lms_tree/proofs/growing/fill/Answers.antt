use Rattle.lms_tree.proofs.growing.fill.Goals as goal

pub returns : goal.returns
returns c = c.fill_inner.ensures c.args.seed.now c.fill_leaves.ensures
