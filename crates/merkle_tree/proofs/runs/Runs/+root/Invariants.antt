use Rattle.merkle_tree.proofs.runs.Runs.+root.Given as goal

abbrev pub decreases-root : goal.decreases-root
decreases-root l = l.len
