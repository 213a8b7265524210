use Rattle.std.proofs.Common.{length}
use Rattle.hss_keys.proofs.branch.+grow.Given as goal

abbrev pub decreases-grow : goal.decreases-grow
decreases-grow l = length l.below.now
