use Rattle.scitt_tool.proofs.Strings.{push_string, no_strings}
use Rattle.scitt_tool.proofs.root.leaves_of.Goals as goal

pub returns-in_default : goal.returns-in_default
returns-in_default c = no_strings _ _ _ c.loop-item-test.true c.item-item.is c.in_default.not-Bytes

pub loop-item-preserved : goal.loop-item-preserved
loop-item-preserved c =
    rw (c.push.ensures, c.leaf_hash.ensures, c.as_slice.ensures) (push_string _ _ _ _ _ c.loop-item-test.true c.item-item.is c.in-Bytes.is c.loop-item.invariant)
