use Rattle.std.proofs.Common.{◌≤◌, sym, ap, ◌∙◌, arith}
use Rattle.atomic_table.specs.declared.badge.Badge.{Badge}
use Rattle.turn_lock.specs.declared.view.View.{View}
use Rattle.turn_lock.specs.Told.{told_list}
use Rattle.turn_lock.specs.Calls.{Caller}
use Rattle.turn_lock.proofs.Steps.{splits_at}
use Rattle.turn_lock.proofs.Sitting.{rests}
use Rattle.turn_lock.proofs.lock.TurnLock.split.Goals as goal

pub split_seat-other-requires : goal.split_seat-other-requires
split_seat-other-requires g c =
    let seat = c.seat.inside in
    let token = c.into_seat-token.result in
    let view = rests seat.badge.views c.replace.result.views seat.weight token.me.0 c.seat.invariant (ap (λ (b : Badge View). b.views) c.replace.ensures.value) c.into_seat-token.ensures.2 in
    let heavy : 2 ≤ token.me.0.weight = omega (arith, ap (λ (v : View). v.weight) view, ap (λ (s : Caller). s.weight) c.seat.view_is, c.requires.weight) in (
      c.into_seat-token.ensures.0 ∙ ap (λ (b : Badge View). b.table_id) c.replace.ensures.value ∙ ap (λ (s : Caller). s.lock) c.seat.view_is ∙ c.requires.lock ∙ sym c.self.view_is,
      omega (arith, c.self.invariant.0),
      splits_at (λ x. told_list (g.T.Grows.told x)) token.id token.me.0 heavy,
    )
