use Rattle.std.proofs.Common.{◌≡◌, ◌≢◌, length, arith, ◌∙◌}
use Rattle.scitt_forms.proofs.OneMember.{none_only, first_only}
use Rattle.scitt_forms.proofs.conditions.only_member.Goals as goal

pub returns-then-len-ne1 : goal.returns-then-len-ne1
returns-then-len-ne1 c = none_only c.args.table.now.entries (λ h. c.if-len-ne1.true (c.len.ensures.len ∙ h))

pub returns-in-Some : goal.returns-in-Some
returns-in-Some c =
    first_only c.args.table.now.entries c.as_str.result.now c.in-Some.key.now c.in-Some.value.now
    (omega (arith, c.len.ensures.len, c.if-len-ne1.false)) c.in-Some.ensures.first c.as_str.ensures.value
