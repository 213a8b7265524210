use Rattle.scitt_draft.proofs.Stating.{two_parts}
use Rattle.scitt_draft.proofs.policy.again.Goals as goal

pub returns : goal.returns
returns c =
    two_parts _ _ _ _ _ _ _ c.new-parts.ensures c.in_ok-push.ensures.ok c.in_ok-push-2.ensures.ok c.in_ok-issuer.ensures c.in_ok-known_subject.ensures
