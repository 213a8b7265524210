use Rattle.std.proofs.Common.{Option, subst}
use Rattle.scitt_tool.specs.declared.sign.Ready.{Ready}
use Rattle.scitt_draft.specs.Drafts.{claimed}
use Rattle.scitt_tool.specs.Drafts.{IsReady}
use Rattle.scitt_tool.proofs.Signing.{signed_over}
use Rattle.scitt_tool.proofs.sign.sign_with.Goals as goal

pub returns-in-Some-clause-over : goal.returns-in-Some-clause-over
returns-in-Some-clause-over g c =
    let claims = claimed c.args.claims.now in
    let file = c.args.file.now in
    let ready = subst (λ (o : Option Ready). IsReady claims file.head c.args.payload.now o) c.in-Some.is c.in_ok-ready.ensures in
    signed_over _ claims file.head file.standing.next c.args.payload.now c.in-Some.ready.draft.protected _ _ c.sign_next.result ready.3 ready.2 c.sign_next.ensures.signs
