use Rattle.std.proofs.Common.{◌≤◌, ◌∙◌, length, arith}
use Rattle.http_wire.proofs.Gathering.{gathers_more}
use Rattle.http_wire.proofs.gather.fill.Goals as goal

pub loop-done-preserved : goal.loop-done-preserved
loop-done-preserved g c =
    let more = c.in_ok-count.ensures in
    let most : length c.make_room.new.bytes.items ≤ c.args.size = omega (arith, c.in_ok-make_room.ensures.most, c.loop-done-test.true) in
    record {
      within = omega (arith, more.within);
      most = omega (arith, most, more.same_length);
      gathers = gathers_more _ _ _ _ _ _ _ _ _ c.loop-done.invariant.gathers c.in_ok-make_room.ensures.kept more.front more.reads.0;
      telling = more.telling ∙ c.loop-done.invariant.telling;
      no_fault = more.cause.kept ∙ c.loop-done.invariant.no_fault;
      keeps = g.met.L.Source.read_keeps_then _ _ _ c.loop-done.invariant.keeps more.keeps;
    }
