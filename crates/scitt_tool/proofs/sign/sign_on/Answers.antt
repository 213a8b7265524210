use Rattle.scitt_draft.specs.Drafts.{claimed}
use Rattle.scitt_tool.proofs.Signing.{loaded_over, unloaded_over}
use Rattle.scitt_tool.proofs.sign.sign_on.Goals as goal

pub returns-in-Ok-clause-over : goal.returns-in-Ok-clause-over
returns-in-Ok-clause-over g c =
    let e = c.in-Ok.ensures in
    loaded_over _ (claimed c.args.claims.now) c.args.payload.now c.in-Ok.file.head c.in-Ok.file.standing _ _ _ c.sign_by.result.result c.sound.ensures.limits e.recovered e.sound e.last e.synced c.sign_by.ensures.over

pub returns-in-Err-clause-over : goal.returns-in-Err-clause-over
returns-in-Err-clause-over g c =
    let e = c.in-Err.ensures in
    unloaded_over _ (claimed c.args.claims.now) c.args.payload.now _ _ _ _ c.in-Err.refused.why c.not_loaded.result e.stops c.not_loaded.ensures e.nothing_written
