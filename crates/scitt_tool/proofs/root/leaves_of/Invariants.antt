use Rattle.std.proofs.Common.{take}
use Rattle.scitt_tool.specs.Root.{HoldsItems}
use Rattle.scitt_tool.proofs.root.leaves_of.Given as goal

abbrev pub invariant-loop-item : goal.invariant-loop-item
invariant-loop-item l = HoldsItems (take l.item-index l.items) l.frontier
