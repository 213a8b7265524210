-- One digit more.
use Rattle.std.proofs.Common.{sym, arith}
use Rattle.lms_ots.proofs.DigitLaws.{shortfall_none, shortfall_more}
use Rattle.lms_ots.proofs.digits.shortfall.Goals as goal

pub loop-i-init : goal.loop-i-init
loop-i-init c = record { value = sym (shortfall_none c.args.bytes.now c.args.width); bound = omega arith }

pub loop-i-preserved : goal.loop-i-preserved
loop-i-preserved c = record {
  value = grind (arith, shortfall_more c.args.bytes.now c.args.width c.loop-i.i);
  bound = omega arith;
}
