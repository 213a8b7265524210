use Rattle.std.proofs.Common.{length}
use Rattle.hss_keys.proofs.flat.+index_below.Given as goal

abbrev pub decreases-index_below : goal.decreases-index_below
decreases-index_below l = length l.below.now
