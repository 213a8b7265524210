use Rattle.std.proofs.Common.{◌≡◌, ◌+◌, ◌≤◌, ◌∙◌, length, take, refl, arith, length-take}
use Rattle.scitt_io.proofs.Reading.{read_on}
use Rattle.scitt_io.proofs.source.read_to_end.Goals as goal

pub returns-then-done-limit-clause-takes : goal.returns-then-done-limit-clause-takes
returns-then-done-limit-clause-takes g c =
    let more = c.in_ok-count.ensures in
    let bytes = c.read_behind.new.bytes.items in
    let done = c.loop-bytes.done + c.in_ok-count.count in
    let most : length c.make_room.new.bytes.items ≤ c.args.limit + 1 = c.in_ok-make_room.ensures.most in
    let past : length (take done bytes) ≡ c.args.limit + 1 = omega (arith, most, more.within, more.same_length, c.if-done-limit.true, length-take done bytes) in
    record {
      bytes = take done bytes;
      taken = read_on _ _ _ _ _ _ _ _ c.loop-bytes.invariant.taken c.in_ok-make_room.ensures.kept more.front more.reads.0;
      within = omega (arith, past);
      too_long = (λ _. past, λ _. refl);
      all = tt;
    }

pub loop-bytes-preserved : goal.loop-bytes-preserved
loop-bytes-preserved g c =
    let more = c.in_ok-count.ensures in
    let most : length c.make_room.new.bytes.items ≤ c.args.limit + 1 = c.in_ok-make_room.ensures.most in
    record {
      within = omega (arith, more.within);
      short = omega (arith, c.if-done-limit.false);
      room = omega (arith, most, more.same_length);
      taken = read_on _ _ _ _ _ _ _ _ c.loop-bytes.invariant.taken c.in_ok-make_room.ensures.kept more.front more.reads.0;
      telling = more.telling ∙ c.loop-bytes.invariant.telling;
      no_fault = more.cause.kept ∙ c.loop-bytes.invariant.no_fault;
      keeps = g.met.S.Source.read_keeps_then _ _ _ c.loop-bytes.invariant.keeps more.keeps;
    }
