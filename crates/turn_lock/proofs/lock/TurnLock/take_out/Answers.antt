use Rattle.std.proofs.Common.{Some, sym, ◌∙◌}
use Rattle.turn_lock.proofs.Sitting.{has_slot}
use Rattle.turn_lock.proofs.lock.TurnLock.take_out.Goals as goal

pub exchange-out-requires : goal.exchange-out-requires
exchange-out-requires g c =
    let won = c.claim.ensures.won in
    (c.claim.ensures.lock ∙ c.requires.lock ∙ sym c.self.view_is, (Some won.value, has_slot c.claim.new.token.me.1 (Some won.value) won.slot))
