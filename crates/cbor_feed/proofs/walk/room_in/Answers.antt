use Rattle.std.proofs.Common.{sym, ◌∙◌}
use Rattle.cbor_feed.proofs.ChainSteps.{room-is}
use Rattle.cbor_feed.proofs.walk.room_in.Goals as goal

pub returns : goal.returns
returns c = c.saturating_sub.ensures ∙ sym (room-is c.args.frames.now)
