use Rattle.scitt_tool.proofs.Strings.{array_short}
use Rattle.scitt_tool.proofs.root.frontier_of.Goals as goal

pub leaves_of-requires : goal.leaves_of-requires
leaves_of-requires c = rw c.as_slice.ensures (array_short _ _ _ c.in-Array.is c.requires.1)
