use Rattle.cbor_core.proofs.PlaceLemmas.{none-ordered}
use Rattle.cbor_core.proofs.places.key_order.Goals as goal
use Rattle.std.proofs.Common.{length, ap}

pub loop-i-init : goal.loop-i-init
loop-i-init c = none-ordered 0 c.new-order.result.items (ap length c.new-order.ensures.items)
