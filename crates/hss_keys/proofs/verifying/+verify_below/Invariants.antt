use Rattle.hss_keys.proofs.verifying.+verify_below.Given as goal

abbrev pub decreases-verify_below : goal.decreases-verify_below
decreases-verify_below l = l.count
