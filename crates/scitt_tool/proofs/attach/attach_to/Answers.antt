use Rattle.std.proofs.Common.{rules, inl, inr}
use Rattle.scitt_tool.proofs.Attaching.{attach_err}
use Rattle.scitt_tool.proofs.attach.attach_to.Goals as goal

pub returns-then-not-branch : goal.returns-then-not-branch
returns-then-not-branch c =
    inr (inl (record { statement = c.requires.0; parsed = c.requires.1; none = search rules; is = c.fixed.ensures }))

pub returns-in-Ok : goal.returns-in-Ok
returns-in-Ok c =
    inr (inr (inr (record { statement = c.requires.0; parsed = c.requires.1; may = search rules; attached = c.in-Ok.attached; spelled = c.in-Ok.ensures; is = c.bytes.ensures })))

pub returns-in-Err : goal.returns-in-Err
returns-in-Err c =
    attach_err c.messages_have_one_answer.ensures.one c.args.bytes.now c.args.receipt.now c.requires.0 c.requires.1 (search rules) c.in-Err.stop _ c.in-Err.ensures c.no_room.ensures
