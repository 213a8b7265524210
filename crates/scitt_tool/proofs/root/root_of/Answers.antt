use Rattle.std.proofs.Common.{inl, inr}
use Rattle.scitt_tool.proofs.root.root_of.Goals as goal

pub returns-in_default : goal.returns-in_default
returns-in_default c =
    λ bytes spelled. inr (inl (record { item = c.args.item.now; spelled = spelled; other = c.in_default.ensures; is = c.fixed.ensures }))
