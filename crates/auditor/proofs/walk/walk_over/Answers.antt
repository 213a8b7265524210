use Rattle.std.proofs.Common.{arith}
use Rattle.auditor.proofs.Records.{number_below, at_more}
use Rattle.auditor.proofs.walk.walk_over.Goals as goal

pub take-requires : goal.take-requires
take-requires c =
    let below = number_below c.args.bytes.now c.records.rest.now c.records.walk c.records.invariant.at in
    omega (arith, below)

pub records-preserved : goal.records-preserved
records-preserved c = record {
  at = at_more c.args.bytes.now c.records.rest.now c.split_at.result.1.now c.in-Some.body.now c.in-Some.behind.now c.records.walk c.take.new.self c.records.invariant.at c.records.invariant.some c.records-test.true c.split_at.ensures.back c.in-Some.ensures.record c.in_ok-take.ensures;
  some = c.in-Some.ensures.record.more;
}
