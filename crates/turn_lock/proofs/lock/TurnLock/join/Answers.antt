use Rattle.std.proofs.Common.{◌≡◌, refl, sym, ap, ◌∙◌, arith}
use Rattle.atomic_table.specs.declared.badge.Badge.{Badge}
use Rattle.turn_lock.specs.declared.view.View.{View}
use Rattle.turn_lock.specs.Told.{told_list}
use Rattle.turn_lock.specs.Views.{resting}
use Rattle.turn_lock.specs.Seats.{seen_of}
use Rattle.turn_lock.specs.Calls.{Caller}
use Rattle.turn_lock.proofs.Steps.{joins_at, looks_at}
use Rattle.turn_lock.proofs.Sitting.{rests}
use Rattle.turn_lock.proofs.lock.TurnLock.join.Given.{Over}
use Rattle.turn_lock.proofs.lock.TurnLock.join.Goals as goal
use Rattle.turn_lock.proofs.lock.TurnLock.join.Goals.{After-into_seat}

module _ (g : Over) (c : After-into_seat g) where
  mine : c.into_seat-token.result.me.0 ≡ resting c.seat.inside.weight (seen_of c.seat.inside.badge.views)
  mine = rests c.seat.inside.badge.views c.replace.result.views c.seat.inside.weight c.into_seat-token.result.me.0 c.seat.invariant (ap (λ (b : Badge View). b.views) c.replace.ensures.value) c.into_seat-token.ensures.2

  others : c.into_seat.result.me.0 ≡ resting c.other.inside.weight (seen_of c.other.inside.badge.views)
  others = rests c.other.inside.badge.views c.other.inside.badge.views c.other.inside.weight c.into_seat.result.me.0 c.other.invariant refl c.into_seat.ensures.2

  my_table : c.into_seat-token.result.table_id ≡ c.self.inside.table.shared.table_id
  my_table = c.into_seat-token.ensures.0 ∙ ap (λ (b : Badge View). b.table_id) c.replace.ensures.value ∙ ap (λ (s : Caller). s.lock) c.seat.view_is ∙ c.requires.lock.0 ∙ sym c.self.view_is

pub join_seat-requires : goal.join_seat-requires
join_seat-requires g c =
    let token = c.into_seat-token.result in
    let other = c.into_seat.result in (
      my_table g c,
      c.into_seat.ensures.0 ∙ ap (λ (s : Caller). s.lock) c.other.view_is ∙ c.requires.lock.1 ∙ sym c.self.view_is,
      c.into_seat.ensures.3,
      omega (arith, c.self.invariant.0),
      joins_at (λ x. told_list (g.T.Grows.told x)) token.id token.me.0 other.id other.me.0 (omega (arith, ap (λ (v : View). v.weight) (mine g c), c.seat.invariant.least)) (ap (λ (v : View). v.turn) (mine g c)) (ap (λ (v : View). v.turn) (others g c)),
    )

pub load-requires : goal.load-requires
load-requires g c =
    (c.join_seat.ensures.0 ∙ my_table g (goal.at.load-requires g c).After-into_seat, omega (arith, c.self.invariant.0), looks_at (λ x. told_list (g.T.Grows.told x)) c.self.inside.table.shared.table_id.slots c.join_seat.new.seat.id c.join_seat.new.seat.me)
