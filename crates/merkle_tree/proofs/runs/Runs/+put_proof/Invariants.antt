use Rattle.merkle_tree.proofs.runs.Runs.+put_proof.Given as goal

abbrev pub decreases-put_proof : goal.decreases-put_proof
decreases-put_proof l = l.len
