use Rattle.std.proofs.Common.{◌∙◌, arith}
use Rattle.scitt_tool.proofs.Making.{read_on}
use Rattle.scitt_tool.proofs.random.read_front.Goals as goal

pub loop-done-preserved : goal.loop-done-preserved
loop-done-preserved g c =
    let more = c.in_ok-count.ensures in
    record {
      within = omega (arith, more.within, more.same_length, c.loop-done.invariant.whole);
      whole = omega (arith, more.same_length, c.loop-done.invariant.whole);
      taken = read_on _ _ _ _ _ _ _ c.loop-done.invariant.taken more.front more.reads.0;
      telling = more.telling ∙ c.loop-done.invariant.telling;
      calm = more.cause.kept ∙ c.loop-done.invariant.calm;
    }
