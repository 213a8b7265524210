use Rattle.std.proofs.Common.{sym, arith}
use Rattle.generator.proofs.Tallying.{none_counted}
use Rattle.generator.proofs.filling.fill.Goals as goal

pub loop-j-init : goal.loop-j-init
loop-j-init c = record { holds = c.in_ok-found.ensures; admitted = sym none_counted.0; denied = sym none_counted.1; few = omega arith }
