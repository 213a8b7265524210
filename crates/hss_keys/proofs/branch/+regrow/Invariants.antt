use Rattle.std.proofs.Common.{length}
use Rattle.hss_keys.proofs.branch.+regrow.Given as goal

abbrev pub decreases-regrow : goal.decreases-regrow
decreases-regrow l = length l.below.now
