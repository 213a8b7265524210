-- What the table asks of each step.
use Rattle.std.proofs.Common.{◌≡◌, ◌≢◌, ℕ, zero, suc, ◌<◌, ◌≤◌, true, false, List, [], ◌∷◌, set, refl, sym, ap, ◌∙◌, subst, inl, inr, arith, Option, Some, eqb}
use Rattle.std.specs.Prelude.{slice_index, slice_set}
use mathlib.Core.Option as opt
use mathlib.Core.List.{IsPrefix}
use base.Growing.{prefix_refl, prefix_trans}
use lib.ListN.{get_elem?}
use prog.Atomic.{either}
use Rattle.atomic_table.specs.Table.{State, Me, step, Act, Valid, Allows, Splits, Joins, homes_after, carried_after, opening, Final, Seen}
use Rattle.atomic_table.specs.Table.Act.{keeps, takes, gives}
use Rattle.atomic_table.proofs.Lists.{at_set, set_again}
use Rattle.turn_lock.specs.declared.view.View.{View}
use Rattle.turn_lock.specs.Told.{Told, Begin}
use Rattle.turn_lock.specs.Views.{resting, spent, turning, turned, less, both, looked}
use Rattle.turn_lock.specs.Turns.{total, Fits, IsFree, IsTaken, TakesTurns, claimed, released, seen_longer}
use Rattle.turn_lock.proofs.Weights.{same_at, set_there, total_set, total_one, total_two}
use Rattle.turn_lock.proofs.Moves.{not_both, free_by, quiet, split_quiet, join_quiet, look_quiet}

module _ {T : Type 0} (list : T → Told) where
  -- a free turn is won: the value goes out with the seat
  wins : (s : State (Option T) View) (f : IsFree list s) (id : ℕ) (v : View) → total s.views ≡ 1024 → 0 < v.weight → get_elem? s.views id ≡ opt.some v
      → TakesTurns list record { words = 1 ∷ []; homes = opt.none ∷ []; views = set s.views id (turning v (list f.value)) }
  wins s f id v weights some at =
      let now : View = turning v (list f.value) in
      record {
        weights = omega (arith, total_set s.views id v now at);
        either = inr (record {
          holder = id;
          view = now;
          words = refl;
          home = refl;
          there = set_there s.views id v now at;
          turn = refl;
          fits = λ j w there. elim (at_set s.views id j now w there) [
            | inl here ↦ subst (λ (u : View). Fits (list f.value) u) here.1 (record { seen = (f.fits id v at).seen; notes = (f.fits id v at).notes; alive = inr some })
            | inr other ↦ f.fits j w other.1
          ];
          alone = λ j w there has. elim (at_set s.views id j now w there) [
            | inl here ↦ here.0
            | inr other ↦ absurd (not_both w has (f.nobody j w other.1))
          ];
        });
      }

  -- what a claim owes, by the words and the slots
  Claims : ℕ → ℕ → View → List View → List ℕ → List (opt.Option (Option T)) → Type 0
  Claims slots id v vs ws hs = (w : View) × (a : Act (Option T)) × Valid hs [] a
      × TakesTurns list record { words = slice_set ws 0 (either (eqb (slice_index ws 0) 0) 1 (slice_index ws 0)); homes = homes_after hs [] a; views = slice_set vs id w }
      × claimed list (step slots 0 0 1 opt.none) (v, []) (slice_index ws 0) (w, carried_after [] a)

  claims : (slots id : ℕ) (v : View) → 0 < v.weight
      → Allows (TakesTurns list) slots id (v, []) 0 (λ n. either (eqb n 0) 1 n) (claimed list (step slots 0 0 1 opt.none) (v, []))
  unfolding Claims
  claims slots id v some s rule len at small = elim rule.either [
    | inl f ↦
        let won : Claims slots id v s.views (0 ∷ []) (opt.some (Some f.value) ∷ []) =
        (turning v (list f.value), takes 0 (Some f.value), refl, wins s f id v rule.weights some at, ((λ e. record { value = f.value; grown = (f.fits id v at).seen; view = refl; slot = refl }), (λ ne. absurd (ne refl)))) in
        subst (λ ws. Claims slots id v s.views ws s.homes) (sym f.words) (subst (λ hs. Claims slots id v s.views (0 ∷ []) hs) (sym f.home) won)
    | inr t ↦
        let same : TakesTurns list record { words = 1 ∷ []; homes = s.homes; views = s.views } = subst (λ ws. TakesTurns list record { words = ws; homes = s.homes; views = s.views }) t.words rule in
        let still : TakesTurns list record { words = 1 ∷ []; homes = s.homes; views = set s.views id v } = subst (λ vs. TakesTurns list record { words = 1 ∷ []; homes = s.homes; views = vs }) (sym (set_again s.views id v at)) same in
        let lost : Claims slots id v s.views (1 ∷ []) s.homes = (v, keeps, tt, still, ((λ e. absurd (omega arith)), (λ ne. refl))) in
        subst (λ ws. Claims slots id v s.views ws s.homes) (sym t.words) lost
  ]

  pub claims_at : (slots id : ℕ) (me : Me (Option T) View) → me.1 ≡ [] → 0 < me.0.weight
      → Allows (TakesTurns list) slots id me 0 (λ n. either (eqb n 0) 1 n) (claimed list (step slots 0 0 1 opt.none) me)
  claims_at slots id me nothing some =
      subst (λ (c : List (ℕ × Option T)). Allows (TakesTurns list) slots id (me.0, c) 0 (λ n. either (eqb n 0) 1 n) (claimed list (step slots 0 0 1 opt.none) (me.0, c)))
      (sym nothing) (claims slots id me.0 some)

  -- the turn is given up: the value goes home
  gives_up : (s : State (Option T) View) (t : IsTaken list s) (id : ℕ) (v : View) (value : T) → total s.views ≡ 1024 → v.turn ≡ true → IsPrefix v.found (list value) → get_elem? s.views id ≡ opt.some v
      → TakesTurns list record { words = 0 ∷ []; homes = opt.some (Some value) ∷ []; views = set s.views id (turned v (list value)) }
  gives_up s t id v value weights has grown at =
      let now : View = turned v (list value) in
      let me : id ≡ t.holder = t.alone id v at has in
      let mine : t.view ≡ v = same_at s.views id t.view v (subst (λ (k : ℕ). get_elem? s.views k ≡ opt.some t.view) (sym me) t.there) at in
      let onward : IsPrefix t.view.found (list value) = subst (λ (u : View). IsPrefix u.found (list value)) (sym mine) grown in
      let some : 0 < v.weight = elim (t.fits id v at).alive [
        | inl gone ↦ absurd (not_both v has (ap (λ (u : View). u.turn) gone))
        | inr heavy ↦ heavy
      ] in
      record {
        weights = omega (arith, total_set s.views id v now at);
        either = inl (record {
          value = value;
          words = refl;
          home = refl;
          fits = λ j w there. elim (at_set s.views id j now w there) [
            | inl here ↦ subst (λ (u : View). Fits (list value) u) here.1 (record { seen = prefix_refl (list value); notes = tt; alive = inr some })
            | inr other ↦ (let f = t.fits j w other.1 in record { seen = prefix_trans w.seen t.view.found (list value) f.seen onward; notes = f.notes; alive = f.alive })
          ];
          nobody = λ j w there. elim (at_set s.views id j now w there) [
            | inl here ↦ ap (λ (u : View). u.turn) (sym here.1)
            | inr other ↦ free_by w.turn (λ too. other.0 (t.alone j w other.1 too ∙ sym me))
          ];
        });
      }

  Releases : ℕ → ℕ → View → T → List View → List ℕ → List (opt.Option (Option T)) → Type 0
  Releases slots id v value vs ws hs = (w : View) × (a : Act (Option T)) × Valid hs ((0, Some value) ∷ []) a
      × TakesTurns list record { words = slice_set ws 0 0; homes = homes_after hs ((0, Some value) ∷ []) a; views = slice_set vs id w }
      × released list (step slots 0 0 0 opt.none) (v, (0, Some value) ∷ []) 0 (w, carried_after ((0, Some value) ∷ []) a)

  same_left : (v : View) (value y : T) → Some value ≡ Some y → ◌≡◌ {A = Me (Option T) View} (turned v (list value), []) (turned v (list y), [])
  same_left v value y e = let same : value ≡ y = cc in ap (λ (z : T). (turned v (list z), [])) same

  releases : (slots id : ℕ) (v : View) (value : T) → v.turn ≡ true → IsPrefix v.found (list value)
      → Allows (TakesTurns list) slots id (v, (0, Some value) ∷ []) 0 (λ _. 0) (λ _. released list (step slots 0 0 0 opt.none) (v, (0, Some value) ∷ []) 0)
  unfolding Releases
  releases slots id v value has grown s rule len at small = elim rule.either [
    | inl f ↦ absurd (not_both v has (f.nobody id v at))
    | inr t ↦
        let left : Releases slots id v value s.views (1 ∷ []) (opt.none ∷ []) = (turned v (list value), gives, tt, gives_up s t id v value rule.weights has grown at, same_left v value) in
        subst (λ ws. Releases slots id v value s.views ws s.homes) (sym t.words) (subst (λ hs. Releases slots id v value s.views (1 ∷ []) hs) (sym t.home) left)
  ]

  -- a load leaves the one word as it is
  word_again : (s : State (Option T) View) → TakesTurns list s → slice_set s.words 0 (slice_index s.words 0) ≡ s.words
  word_again s rule = elim rule.either [
    | inl f ↦ subst (λ ws. slice_set ws 0 (slice_index ws 0) ≡ ws) (sym f.words) refl
    | inr t ↦ subst (λ ws. slice_set ws 0 (slice_index ws 0) ≡ ws) (sym t.words) refl
  ]

  notes_begin : (s : State (Option T) View) (id : ℕ) (v : View) → TakesTurns list s → get_elem? s.views id ≡ opt.some v → Begin v.notes v.seen
  notes_begin s id v rule at = elim rule.either [ inl f ↦ (f.fits id v at).notes | inr t ↦ (t.fits id v at).notes ]

  pub looks_at : (slots id : ℕ) (me : Me (Option T) View) → Allows (TakesTurns list) slots id me 0 (λ n. n) (seen_longer (step slots 0 0 0 opt.none) me)
  looks_at slots id me s rule len at small =
      let now : TakesTurns list record { words = s.words; homes = s.homes; views = set s.views id (looked me.0) } = quiet list s (set s.views id (looked me.0)) rule (look_quiet s.views id me.0 at) in (
        looked me.0,
        keeps,
        tt,
        subst (λ ws. TakesTurns list record { words = ws; homes = s.homes; views = set s.views id (looked me.0) }) (sym (word_again s rule)) now,
        (notes_begin s id me.0 rule at, omega (arith, total_one s.views id me.0 at, rule.weights), refl),
      )

  pub splits_at : (id : ℕ) (v : View) → 2 ≤ v.weight → Splits (TakesTurns list) id v (less v) (resting 1 v.seen)
  splits_at id v heavy s rule at = quiet list s _ rule (split_quiet s.views id v heavy at)

  pub joins_at : (id : ℕ) (v : View) (other : ℕ) (w : View) → 0 < v.weight → v.turn ≡ false → w.turn ≡ false → Joins (TakesTurns list) id v other w (both v w) spent
  joins_at id v other w some free_v free_w s rule at_v apart at_w = quiet list s _ rule (join_quiet s.views id other v w some free_v free_w apart at_v at_w)

  -- the table at the start
  only_one : (v : View) (id : ℕ) (w : View) → get_elem? (v ∷ []) id ≡ opt.some w → v ≡ w
  only_one v zero w at = opt.some-injective v w at
  only_one v (suc id) w at = absurd (opt.some-ne-none w (sym at))

  pub opens : (value : T) → TakesTurns list (opening (0 ∷ []) (Some value ∷ []) (resting 1024 (list value)))
  opens value = record {
    weights = refl;
    either = inl (record {
      value = value;
      words = refl;
      home = refl;
      fits = λ id v at. subst (λ (u : View). Fits (list value) u) (only_one (resting 1024 (list value)) id v at) (record { seen = prefix_refl (list value); notes = tt; alive = inr (omega arith) });
      nobody = λ id v at. ap (λ (u : View). u.turn) (sym (only_one (resting 1024 (list value)) id v at));
    });
  }

  -- the table at the end: a seat with all the weight finds the value at home
  pub closes : (id : ℕ) (seen : Told) (ws : List ℕ) (xs : List (Option T)) → Final (Seen (TakesTurns list) id (resting 1024 seen)) ws xs
      → (value : T) × (get_elem? xs 0 ≡ opt.some (Some value)) × IsPrefix seen (list value)
  closes id seen ws xs final =
      let s = final.0 in
      let rule : TakesTurns list s = final.1.0 in
      let at : get_elem? s.views id ≡ opt.some (resting 1024 seen) = final.1.1 in
      elim rule.either [
        | inl f ↦ (f.value, final.4 0 (Some f.value) (ap (λ (hs : List (opt.Option (Option T))). get_elem? hs 0) f.home), (f.fits id (resting 1024 seen) at).seen)
        | inr t ↦
            let apart : id ≢ t.holder = λ e. not_both t.view t.turn (ap (λ (u : View). u.turn) (same_at s.views t.holder t.view (resting 1024 seen) t.there (subst (λ (k : ℕ). get_elem? s.views k ≡ opt.some (resting 1024 seen)) e at))) in
            let weights = total_two s.views id t.holder (resting 1024 seen) t.view at t.there apart in
            absurd (elim (t.fits t.holder t.view t.there).alive [
              | inl gone ↦ not_both t.view t.turn (ap (λ (u : View). u.turn) gone)
              | inr heavy ↦ omega (arith, weights, rule.weights)
            ])
      ]

  -- after the value was put into the slot
  pub releases_from : (slots id : ℕ) (old me : Me (Option T) View) (value : T) → me ≡ (old.0, (0, Some value) ∷ []) → old.0.turn ≡ true → IsPrefix old.0.found (list value)
      → Allows (TakesTurns list) slots id me 0 (λ _. 0) (λ _. released list (step slots 0 0 0 opt.none) me 0)
  releases_from slots id old me value is has grown =
      subst (λ (m : Me (Option T) View). Allows (TakesTurns list) slots id m 0 (λ _. 0) (λ _. released list (step slots 0 0 0 opt.none) m 0)) (sym is) (releases slots id old.0 value has grown)
