use Rattle.cbor_feed.proofs.FeedSteps.{cut-empty}
use Rattle.cbor_feed.proofs.feed.Feed.new.Goals as goal

pub invariant_of-result : goal.invariant_of-result
invariant_of-result c = rw (c.new-2.ensures.items, c.new.ensures.items) (cut-empty c.args.grammar)
