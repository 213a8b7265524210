use Rattle.std.proofs.Common.{Option, reverse, refl, subst}
use Rattle.cbor_feed.specs.declared.feed.Ended.{Ended}
use Rattle.cbor_feed.specs.Keeping.{Keeps}
use Rattle.cbor_feed.proofs.FeedSteps.{cut-fault}
use Rattle.cbor_feed.proofs.feed.Feed.finish.Goals as goal

pub returns-in-None : goal.returns-in-None
returns-in-None c =
    let cut = subst (λ (e : Option Ended). Keeps c.self.inside.grammar c.self.inside.held.items c.self.inside.frames.items e) c.in-None.is c.self.invariant in
    let fault = cut-fault c.self.inside.grammar (reverse c.self.inside.frames.items) c.self.inside.held.items cut in
    rw (← c.self.view_is, c.in-None.is, c.place.ensures, c.as_slice.ensures.value) (refl, fault)
