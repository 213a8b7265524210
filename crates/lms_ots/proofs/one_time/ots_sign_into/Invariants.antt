use Rattle.std.proofs.Common.{◌≡◌, ◌++◌, ◌+◌, ◌*◌, take}
use Rattle.lms_ots.specs.Words.{u32str, joined}
use Rattle.lms_ots.specs.Chains.{secret, chain}
use Rattle.lms_ots.specs.Digits.{coef}
use Rattle.lms_ots.specs.OneTime.{randomizer}
use Rattle.lms_ots.proofs.one_time.ots_sign_into.Given as goal

abbrev pub invariant-loop-i : goal.invariant-loop-i
invariant-loop-i l = record {
  reached : l.end ≡ 36 + 32 * l.i;
  written : take l.end l.buf ≡ (u32str l.row.code ++ randomizer l.at l.seed)
      ++ joined (λ i. chain l.at i 0 (coef l.digits i l.row.width) (secret l.at i l.seed)) l.i;
}
