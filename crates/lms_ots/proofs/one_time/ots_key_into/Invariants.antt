use Rattle.std.proofs.Common.{◌++◌, ◌-◌, ◌^◌}
use Rattle.sha2.specs.Hashers.{Holds256}
use Rattle.lms_ots.specs.Words.{joined}
use Rattle.lms_ots.specs.Chains.{prefix, secret, chain}
use Rattle.lms_ots.specs.OneTime.{d_pblc}
use Rattle.lms_ots.proofs.one_time.ots_key_into.Given as goal

abbrev pub invariant-loop-i : goal.invariant-loop-i
invariant-loop-i l =
    Holds256 l.hasher (prefix l.at d_pblc
    ++ joined (λ i. chain l.at i 0 (2 ^ l.row.width - 1) (secret l.at i l.seed)) l.i)
