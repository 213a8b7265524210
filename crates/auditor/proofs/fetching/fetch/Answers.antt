use Rattle.std.proofs.Common.{◌≡◌, ◌+◌, ◌≤◌, ◌∙◌, length, take, arith, length-take}
use Rattle.auditor.specs.Fetches.{IsFront}
use Rattle.auditor.proofs.Taking.{taken_on, took_too_many, took_well, all_of}
use Rattle.auditor.proofs.fetching.fetch.Goals as goal

pub returns-then-done-room-clause-took : goal.returns-then-done-room-clause-took
returns-then-done-room-clause-took g c =
    let more = c.in_ok-count.ensures in
    let bytes = c.read_behind.new.bytes.items in
    let done = c.loop-bytes.done + c.in_ok-count.count in
    let most : length c.make_room.new.bytes.items ≤ c.min-most.result + 1 = c.in_ok-make_room.ensures.most in
    took_too_many c.args.room (IsFront c.args.want) _ _ (take done bytes) (taken_on _ _ _ _ _ _ _ _ c.loop-bytes.invariant.taken c.in_ok-make_room.ensures.kept more.front more.reads.0)
    (omega (arith, most, more.within, more.same_length, c.if-done-room.true, c.min-most.ensures, length-take done bytes))

pub returns-then-done-most-clause-took : goal.returns-then-done-most-clause-took
returns-then-done-most-clause-took g c =
    let more = c.in_ok-count.ensures in
    let bytes = c.read_behind.new.bytes.items in
    let done = c.loop-bytes.done + c.in_ok-count.count in
    let most : length c.make_room.new.bytes.items ≤ c.min-most.result + 1 = c.in_ok-make_room.ensures.most in
    let whole : length bytes ≡ done = omega (arith, most, more.within, more.same_length, c.if-done-most.true) in
    let long : length (take done bytes) ≡ done = omega (arith, whole, length-take done bytes) in
    took_well c.args.room (IsFront c.args.want) _ _ (take done bytes) c.read_behind.new.bytes (taken_on _ _ _ _ _ _ _ _ c.loop-bytes.invariant.taken c.in_ok-make_room.ensures.kept more.front more.reads.0)
    (omega (arith, long, c.if-done-room.false))
    (record {
      items = all_of done bytes whole;
      most = omega (arith, long, whole, most, more.same_length, c.min-most.ensures, c.requires);
      end = λ short. absurd (omega (arith, short, long, c.if-done-most.true, c.if-done-room.false, c.min-most.ensures, c.requires));
    })

pub loop-bytes-preserved : goal.loop-bytes-preserved
loop-bytes-preserved g c =
    let more = c.in_ok-count.ensures in
    let most : length c.make_room.new.bytes.items ≤ c.min-most.result + 1 = c.in_ok-make_room.ensures.most in
    record {
      within = omega (arith, more.within);
      short = omega (arith, c.if-done-most.false);
      items = omega (arith, most, more.same_length);
      taken = taken_on _ _ _ _ _ _ _ _ c.loop-bytes.invariant.taken c.in_ok-make_room.ensures.kept more.front more.reads.0;
      telling = more.telling ∙ c.loop-bytes.invariant.telling;
      no_fault = more.cause.kept ∙ c.loop-bytes.invariant.no_fault;
      keeps = g.met.S.Source.read_keeps_then _ _ _ c.loop-bytes.invariant.keeps more.keeps;
    }
