use Rattle.std.proofs.Common.{◌++◌, ◌+◌, ◌-◌, ◌*◌, ◌^◌}
use Rattle.sha2.specs.Hashers.{Holds256}
use Rattle.lms_ots.specs.Words.{joined, part}
use Rattle.lms_ots.specs.Chains.{prefix, chain}
use Rattle.lms_ots.specs.Digits.{coef}
use Rattle.lms_ots.specs.OneTime.{d_pblc}
use Rattle.lms_ots.proofs.one_time.candidate.Given as goal

abbrev pub invariant-loop-i : goal.invariant-loop-i
invariant-loop-i l =
    Holds256 l.hasher (prefix l.at d_pblc
    ++ joined (λ i. chain l.at i (coef l.digits i l.row.width) (2 ^ l.row.width - 1) (part l.sig (36 + 32 * i) 32)) l.i)
