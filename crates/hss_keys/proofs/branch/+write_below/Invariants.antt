use Rattle.std.proofs.Common.{length}
use Rattle.hss_keys.proofs.branch.+write_below.Given as goal

abbrev pub decreases-write_below : goal.decreases-write_below
decreases-write_below l = length l.below.now
