use Rattle.std.proofs.Common.{arith, ap, length}
use Rattle.log_replay.proofs.Making.{lists_made}
use Rattle.log_replay.proofs.state.State.make_room.Goals as goal

pub invariant_of-self : goal.invariant_of-self
invariant_of-self c =
    let was = c.args.self.now in
    let kept = c.reserve.ensures in
    let count = ap length kept.ids in
    record {
      ruled = was.ruled;
      few = omega (arith, count, was.few);
      most = was.most;
      name_some = was.name_some;
      name_most = was.name_most;
      counted = omega (arith, count, was.counted);
      bounded = was.bounded;
      small = was.small;
      written = was.written;
      made = lists_made was c.reserve.new.self kept.ids kept.homes kept.facts kept.leaves was.made;
    }

pub invariant_of-self-2 : goal.invariant_of-self-2
invariant_of-self-2 c =
    let was = c.args.self.now in
    let kept = c.reserve.ensures in
    let count = ap length kept.ids in
    record {
      ruled = was.ruled;
      few = omega (arith, count, was.few);
      most = was.most;
      name_some = was.name_some;
      name_most = was.name_most;
      counted = omega (arith, count, was.counted);
      bounded = was.bounded;
      small = was.small;
      written = was.written;
      made = lists_made was c.reserve.new.self kept.ids kept.homes kept.facts kept.leaves was.made;
    }
