use Rattle.std.proofs.Common.{arith, length-take}
use Rattle.scitt_tool.proofs.keygen.seed_of.Goals as goal

pub slice_bounds-copy_from_slice-end-2 : goal.slice_bounds-copy_from_slice-end-2
slice_bounds-copy_from_slice-end-2 c = omega (arith, c.requires, length-take 32 c.args.random.now)
