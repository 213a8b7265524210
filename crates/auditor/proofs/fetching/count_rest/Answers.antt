use Rattle.std.proofs.Common.{◌+◌, ◌∙◌, length-take, arith}
use Rattle.auditor.specs.Fetches.{IsRest}
use Rattle.auditor.proofs.Taking.{gone_on, took_too_many}
use Rattle.auditor.proofs.fetching.count_rest.Goals as goal

pub returns-then-count-more-clause-took : goal.returns-then-count-more-clause-took
returns-then-count-more-clause-took g c =
    let more = c.in_ok-count.ensures in
    let gone = gone_on _ _ _ c.loop-count.done c.in_ok-count.count _ c.loop-count.invariant.gone more.bytes.0 more.bound.0 in
    took_too_many c.args.room IsRest _ _ gone.bytes gone.taken (omega (arith, gone.counted, more.bound.0, c.if-count-more.true, c.min.ensures, c.loop-count.invariant.short, length-take (c.min.result + 1) c.loop-count.piece))

pub loop-count-preserved : goal.loop-count-preserved
loop-count-preserved g c =
    let more = c.in_ok-count.ensures in
    record {
      gone = gone_on _ _ _ c.loop-count.done c.in_ok-count.count _ c.loop-count.invariant.gone more.bytes.0 more.bound.0;
      short = omega (arith, c.if-count-more.false, c.loop-count.invariant.short);
      telling = more.telling ∙ c.loop-count.invariant.telling;
      no_fault = more.cause.kept ∙ c.loop-count.invariant.no_fault;
      keeps = g.met.S.Source.read_keeps_then _ _ _ c.loop-count.invariant.keeps more.keeps;
    }
