use Rattle.std.proofs.Common.{refl, ap}
use Rattle.scitt_tool.specs.Meaning.{meaning}
use Rattle.scitt_tool.proofs.Dues.{plain_over, over_judged}
use Rattle.scitt_tool.proofs.run.judge.Goals as goal

pub returns-in_ok-root-in-Root-clause-judged : goal.returns-in_ok-root-in-Root-clause-judged
returns-in_ok-root-in-Root-clause-judged g c =
    rw c.in-Root.is (plain_over _ _ _ _ _ _ (λ key random. (rw c.first.ensures at c.in_ok-root-in-Root.ensures, refl)))

pub returns-in_ok-show-in-Show-clause-judged : goal.returns-in_ok-show-in-Show-clause-judged
returns-in_ok-show-in-Show-clause-judged g c =
    rw c.in-Show.is (plain_over _ _ _ _ _ _ (λ key random. (rw c.first-in-Show.ensures at c.in_ok-show-in-Show.ensures, refl)))

pub returns-in_ok-policy-in-Policy-clause-judged :
    goal.returns-in_ok-policy-in-Policy-clause-judged
returns-in_ok-policy-in-Policy-clause-judged g c =
    rw c.in-Policy.is (plain_over _ _ _ _ _ _ (λ key random. (rw c.first-in-Policy.ensures at c.in_ok-policy-in-Policy.ensures, refl)))

pub returns-in_ok-replay-in-Replay-clause-judged : goal.returns-in_ok-replay-in-Replay-clause-judged
returns-in_ok-replay-in-Replay-clause-judged g c =
    rw c.in-Replay.is (plain_over _ _ _ _ _ _ (λ key random. (rw c.first-in-Replay.ensures at c.in_ok-replay-in-Replay.ensures.text, refl)))

pub returns-in_ok-generate-in-Generate-clause-judged : goal.returns-in_ok-generate-in-Generate-clause-judged
returns-in_ok-generate-in-Generate-clause-judged g c =
    rw c.in-Generate.is (plain_over _ _ _ _ _ _ (λ key random. (c.in_ok-generate-in-Generate.ensures, refl)))

pub returns-in_ok-attach-in-Attach-clause-judged :
    goal.returns-in_ok-attach-in-Attach-clause-judged
returns-in_ok-attach-in-Attach-clause-judged g c =
    rw c.in-Attach.is (plain_over _ _ _ _ _ _ (λ key random. (rw (c.first-in-Attach.ensures, c.second.ensures) at c.in_ok-attach-in-Attach.ensures, refl)))

pub returns-in_ok-verify-in-Verify-clause-judged :
    goal.returns-in_ok-verify-in-Verify-clause-judged
returns-in_ok-verify-in-Verify-clause-judged g c =
    rw c.in-Verify.is (plain_over _ _ _ _ _ _ (λ key random. (rw (c.first-in-Verify.ensures, c.second-in-Verify.ensures) at c.in_ok-verify-in-Verify.ensures, refl)))

pub returns-in_ok-consistent-in-Consistent-clause-judged :
    goal.returns-in_ok-consistent-in-Consistent-clause-judged
returns-in_ok-consistent-in-Consistent-clause-judged g c =
    rw c.in-Consistent.is (plain_over _ _ _ _ _ _ (λ key random. (rw (c.first-in-Consistent.ensures, c.second-in-Consistent.ensures) at c.in_ok-consistent-in-Consistent.ensures, refl)))

pub returns-in-Sign-clause-judged : goal.returns-in-Sign-clause-judged
returns-in-Sign-clause-judged g c =
    rw c.in-Sign.is (over_judged _ _ _ _ _ _ _ _ (rw c.first-in-Sign.ensures at c.sign.ensures.over) (λ random outcome signed. signed))

pub unreachable-requires : goal.unreachable-requires
unreachable-requires g c = c.requires c.in-Audit.file.now (ap meaning c.in-Audit.is)
