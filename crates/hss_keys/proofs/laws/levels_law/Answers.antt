use Rattle.hss_keys.proofs.CapacityLaws.{capacity_pos, capacity_bound}
use Rattle.hss_keys.proofs.LengthLaws.{hss_sig_len_bound}
use Rattle.hss_keys.proofs.laws.levels_law.Goals as goal

pub returns-clause-some : goal.returns-clause-some
returns-clause-some c = capacity_pos

pub returns-clause-capacity : goal.returns-clause-capacity
returns-clause-capacity c = capacity_bound

pub returns-clause-sig_len : goal.returns-clause-sig_len
returns-clause-sig_len c = hss_sig_len_bound
