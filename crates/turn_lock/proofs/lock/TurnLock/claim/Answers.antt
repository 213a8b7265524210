-- A claim that is lost changes nothing.
use Rattle.std.proofs.Common.{sym, ap, ◌∙◌, arith}
use Rattle.turn_lock.specs.Told.{told_list}
use Rattle.turn_lock.proofs.Steps.{claims_at}
use Rattle.turn_lock.proofs.lock.TurnLock.claim.Goals as goal

pub compare_exchange-found-requires : goal.compare_exchange-found-requires
compare_exchange-found-requires g c =
    let me = c.loop.token.me in
    let same = c.loop.invariant.3 in
    let table = c.self.inside.table.shared.table_id in (
      c.loop.invariant.2 ∙ c.requires.lock ∙ sym c.self.view_is,
      omega (arith, c.self.invariant.0),
      claims_at (λ x. told_list (g.T.Grows.told x)) table.slots c.loop.token.id me (ap (λ m. m.1) same ∙ c.requires.rests.0) (omega (arith, ap (λ m. m.0.weight) same, c.requires.rests.1)),
    )
