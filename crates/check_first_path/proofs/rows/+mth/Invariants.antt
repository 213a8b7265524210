use Rattle.check_first_path.proofs.rows.+mth.Given as goal

abbrev pub decreases-mth : goal.decreases-mth
decreases-mth l = l.levels
