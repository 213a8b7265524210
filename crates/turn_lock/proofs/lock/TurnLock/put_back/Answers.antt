use Rattle.std.proofs.Common.{None, Some, sym, ◌∙◌, arith}
use Rattle.turn_lock.specs.Told.{told_list}
use Rattle.turn_lock.proofs.Steps.{releases_from}
use Rattle.turn_lock.proofs.Sitting.{put_there}
use Rattle.turn_lock.proofs.lock.TurnLock.put_back.Goals as goal

pub store-requires : goal.store-requires
store-requires g c =
    let table = c.self.inside.table.shared.table_id in
    let token = c.exchange-empty.new.seat in (
      c.exchange-empty.ensures.0 ∙ c.requires.lock ∙ sym c.self.view_is,
      omega (arith, c.self.invariant.0),
      releases_from (λ x. told_list (g.T.Grows.told x)) table.slots token.id c.args.token.now.me token.me c.args.value
          (put_there c.args.token.now.me token.me None (Some c.args.value) c.requires.slot c.exchange-empty.ensures.3) c.requires.turn.0 c.requires.turn.1,
    )
