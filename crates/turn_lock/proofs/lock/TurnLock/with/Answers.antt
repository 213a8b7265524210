use Rattle.std.proofs.Common.{◌≡◌, take, sym, ap, ◌∙◌, subst, arith}
use mathlib.Core.List.{IsPrefix}
use Rattle.atomic_table.specs.declared.badge.Badge.{Badge}
use Rattle.turn_lock.specs.declared.view.View.{View}
use Rattle.turn_lock.specs.Told.{Told, told_list, TellsAlike}
use Rattle.turn_lock.specs.Seats.{seen_of}
use Rattle.turn_lock.specs.Calls.{Caller}
use Rattle.turn_lock.proofs.Sitting.{grown_from, rests, found_list}
use Rattle.turn_lock.proofs.lock.TurnLock.with.Given.{Over}
use Rattle.turn_lock.proofs.lock.TurnLock.with.Goals as goal
use Rattle.turn_lock.proofs.lock.TurnLock.with.Goals.{After-take_out-value, After-run-result}

pub take_out-value-requires-clause-rests : goal.take_out-value-requires-clause-rests
take_out-value-requires-clause-rests g c =
    let view = rests c.seat.inside.badge.views c.replace.result.views c.seat.inside.weight c.into_seat-token.result.me.0 c.seat.invariant (ap (λ (b : Badge View). b.views) c.replace.ensures.value) c.into_seat-token.ensures.2 in
    (c.into_seat-token.ensures.3, omega (arith, ap (λ (v : View). v.weight) view, c.seat.invariant.least))

module _ (g : Over) (c : After-take_out-value g) where
  begun : IsPrefix c.args.seat.now.seen (told_list (g.T.Grows.told c.take_out-value.result))
  begun = grown_from c.seat.inside.badge.views c.replace.result.views c.seat.inside.weight c.into_seat-token.result.me.0 c.args.seat.now.seen (told_list (g.T.Grows.told c.take_out-value.result))
      c.seat.invariant (ap (λ (b : Badge View). b.views) c.replace.ensures.value) c.into_seat-token.ensures.2 (ap (λ (s : Caller). s.seen) c.seat.view_is) c.take_out-value.ensures.begins

pub run-result-requires : goal.run-result-requires
run-result-requires g c = (c.requires.work c.take_out-value.result (begun g (goal.at.run-result-requires g c).After-take_out-value)).0

module _ (g : Over) (c : After-run-result g) where
  grown : IsPrefix c.args.seat.now.seen (told_list (g.T.Grows.told c.take_out-value.result))
  grown = grown_from c.seat.inside.badge.views c.replace.result.views c.seat.inside.weight c.into_seat-token.result.me.0 c.args.seat.now.seen (told_list (g.T.Grows.told c.take_out-value.result))
      c.seat.invariant (ap (λ (b : Badge View). b.views) c.replace.ensures.value) c.into_seat-token.ensures.2 (ap (λ (s : Caller). s.seen) c.seat.view_is) c.take_out-value.ensures.begins

  worked : IsPrefix (told_list (g.T.Grows.told c.take_out-value.result)) (told_list (g.T.Grows.told c.run-result.new.value)) × TellsAlike (g.T.Grows.told c.take_out-value.result) (g.T.Grows.told c.run-result.new.value)
  worked = (c.requires.work c.take_out-value.result grown).1 c.run-result.result c.run-result.new.value c.run-result.ensures

pub put_back-requires-clause-turn : goal.put_back-requires-clause-turn
put_back-requires-clause-turn g c =
    let out = c.take_out-value.ensures.out in (
      ap (λ m. m.0.turn) out,
      subst (λ (xs : Told). IsPrefix xs (told_list (g.T.Grows.told c.run-result.new.value))) (sym (ap (λ m. m.0.found) out)) (worked g (goal.at.put_back-requires-clause-turn g c).After-run-result).0,
    )

pub returns : goal.returns
returns g c =
    let after = goal.at.returns g c in
    let work = worked g after.After-run-result in
    let left = told_list (g.T.Grows.told c.run-result.new.value) in
    let view = ap (λ m. m.0) c.put_back.ensures.rests in
    let seen : seen_of c.into_badge.result.views ≡ left = ap seen_of c.into_badge.ensures.2 ∙ ap (λ (v : View). v.seen) view in
    record {
      value = c.take_out-value.result;
      left = c.run-result.new.value;
      worked = c.run-result.ensures;
      lock = c.into_badge.ensures.0 ∙ c.put_back.ensures.lock ∙ c.take_out-value.ensures.lock ∙ c.into_seat-token.ensures.0 ∙ ap (λ (b : Badge View). b.table_id) c.replace.ensures.value ∙ ap (λ (s : Caller). s.lock) c.seat.view_is;
      weight = ap (λ (s : Caller). s.weight) c.seat.view_is;
      grown = grown g after.After-run-result;
      list_found = ap (take c.len-seat-inside.result) seen ∙ found_list (g.T.Grows.told c.take_out-value.result) (g.T.Grows.told c.run-result.new.value) c.len-seat-inside.result c.len-seat-inside.ensures work.1 work.0;
      list_left = seen;
      marks_found = c.marks-seat-inside.ensures;
      marks_left = c.marks-seat-inside-2.ensures;
    }
