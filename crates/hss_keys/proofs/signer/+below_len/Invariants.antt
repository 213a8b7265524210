use Rattle.std.proofs.Common.{length}
use Rattle.hss_keys.proofs.signer.+below_len.Given as goal

abbrev pub decreases-below_len : goal.decreases-below_len
decreases-below_len l = length l.below.now
