-- A seat with all the weight finds the value at home.
use Rattle.std.proofs.Common.{◌≡◌, ℕ, Some, refl, sym, ap, ◌∙◌, subst}
use mathlib.Core.Option as opt
use mathlib.Core.List.{IsPrefix}
use lib.ListN.{get_elem?}
use Rattle.std.specs.Slots.{slots_items}
use Rattle.atomic_table.specs.Table.{Final, Seen}
use Rattle.turn_lock.specs.declared.view.View.{View}
use Rattle.turn_lock.specs.Told.{Told, told_list}
use Rattle.turn_lock.specs.Views.{resting}
use Rattle.turn_lock.specs.Seats.{seen_of}
use Rattle.turn_lock.specs.Turns.{TakesTurns}
use Rattle.turn_lock.specs.Calls.{Caller}
use Rattle.turn_lock.proofs.Steps.{closes}
use Rattle.turn_lock.proofs.Sitting.{rests}
use Rattle.turn_lock.proofs.lock.TurnLock.close.Given.{Over}
use Rattle.turn_lock.proofs.lock.TurnLock.close.Goals as goal
use Rattle.turn_lock.proofs.lock.TurnLock.close.Goals.{After-take}

module _ (g : Over) (c : After-take g) where
  weighs : c.seat.inside.weight ≡ 1024
  weighs = ap (λ (s : Caller). s.weight) c.seat.view_is ∙ sym c.weight-weight.ensures ∙ c.if-weight-ne-WHOLE.false

  view : c.into_seat.result.me.0 ≡ resting 1024 (seen_of c.seat.inside.badge.views)
  view = rests c.seat.inside.badge.views c.seat.inside.badge.views c.seat.inside.weight c.into_seat.result.me.0 c.seat.invariant refl c.into_seat.ensures.2
      ∙ ap (λ (n : ℕ). resting n (seen_of c.seat.inside.badge.views)) weighs

  home : (value : g.row.T.Denot) × (get_elem? (slots_items c.close_with-closed.result.slots) 0 ≡ opt.some (Some value)) × IsPrefix (seen_of c.seat.inside.badge.views) (told_list (g.T.Grows.told value))
  home = closes (λ x. told_list (g.T.Grows.told x)) c.into_seat.result.id (seen_of c.seat.inside.badge.views) (slots_items c.close_with-closed.result.words) (slots_items c.close_with-closed.result.slots)
      (subst (λ (v : View). Final (Seen (TakesTurns (λ x. told_list (g.T.Grows.told x))) c.into_seat.result.id v) (slots_items c.close_with-closed.result.words) (slots_items c.close_with-closed.result.slots)) view c.close_with-closed.ensures.values.2)

  taken : c.take.result ≡ Some home.0
  taken = opt.some-injective c.take.result (Some home.0) (sym c.take.ensures.value ∙ home.1)

pub unreachable-requires : goal.unreachable-requires
unreachable-requires g c = c.in_default.not-Some (home g (goal.at.unreachable-requires g c).After-take).0 (taken g (goal.at.unreachable-requires g c).After-take)

pub returns-clause-ok : goal.returns-clause-ok
returns-clause-ok g c =
    let at = (goal.at.returns-clause-ok g c).After-take in
    let home = home g at in
    let same : home.0 ≡ c.in-Some.value = (let both : Some home.0 ≡ Some c.in-Some.value = sym (taken g at) ∙ c.in-Some.is in cc) in
    let seen = ap (λ (s : Caller). s.seen) c.seat.view_is in (
      subst (λ (x : g.row.T.Denot). IsPrefix c.args.seat.seen (told_list (g.T.Grows.told x))) same (subst (λ (xs : Told). IsPrefix xs (told_list (g.T.Grows.told home.0))) seen home.2),
      sym (ap (λ (s : Caller). s.weight) c.seat.view_is) ∙ weighs g at,
    )
