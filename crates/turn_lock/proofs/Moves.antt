-- Every kind of step keeps the rule.
use Rattle.std.proofs.Common.{◌≡◌, ◌≢◌, ℕ, ◌<◌, ◌≤◌, Bool, true, false, List, [], ◌∷◌, ◌++◌, set, refl, sym, ap, ◌∙◌, subst, inl, inr, arith, Option}
use mathlib.Core.Option as opt
use lib.ListN.{get_elem?}
use Rattle.atomic_table.specs.Table.{State}
use Rattle.atomic_table.proofs.Lists.{at_set, set_else, at_longer, at_snoc}
use Rattle.turn_lock.specs.declared.view.View.{View}
use Rattle.turn_lock.specs.Told.{Told}
use Rattle.turn_lock.specs.Views.{resting, spent, less, both, looked}
use Rattle.turn_lock.specs.Turns.{total, Fits, TakesTurns}
use Rattle.turn_lock.proofs.Prefixes.{longer_within, to_longer}
use Rattle.turn_lock.proofs.Weights.{one_or_other, set_there, same_at, total_set, total_snoc}

-- a turn is no free one
pub not_both : (v : View) → v.turn ≡ true → v.turn ≡ false → ⊥
not_both v has hasnt = cc

pub free_by : (b : Bool) → (b ≡ true → ⊥) → b ≡ false
free_by true never = absurd (never refl)
free_by false never = refl

-- all views fit a list
abbrev AllFit : Told → List View → Type 0
AllFit xs vs = (id : ℕ) (v : View) → get_elem? vs id ≡ opt.some v → Fits xs v

-- a change of the views that keeps the weights, what fits, and who has the turn, which found the same
pub record Quiet (vs ws : List View) : Type 0 where
  pub weights : total ws ≡ total vs
  pub fits : (xs : Told) → AllFit xs vs → AllFit xs ws
  pub back : (id : ℕ) (w : View) → get_elem? ws id ≡ opt.some w → w.turn ≡ true → (v : View) × (get_elem? vs id ≡ opt.some v) × (v.turn ≡ true)
  pub on : (id : ℕ) (v : View) → get_elem? vs id ≡ opt.some v → v.turn ≡ true → (w : View) × (get_elem? ws id ≡ opt.some w) × (w.turn ≡ true) × (w.found ≡ v.found)

module _ {T : Type 0} (list : T → Told) where
  -- it keeps the rule, since no word and no slot changes
  pub quiet : (s : State (Option T) View) (ws : List View) → TakesTurns list s → Quiet s.views ws → TakesTurns list record { words = s.words; homes = s.homes; views = ws }
  quiet s ws rule change = record {
    weights = change.weights ∙ rule.weights;
    either = elim rule.either [
      | inl f ↦ inl (record {
        value = f.value;
        words = f.words;
        home = f.home;
        fits = change.fits (list f.value) f.fits;
        nobody = λ id w at. free_by w.turn (λ has. let was = change.back id w at has in not_both was.0 was.2 (f.nobody id was.0 was.1));
      })
      | inr t ↦
          let now = change.on t.holder t.view t.there t.turn in
          inr (record {
            holder = t.holder;
            view = now.0;
            words = t.words;
            home = t.home;
            there = now.1;
            turn = now.2;
            fits = subst (λ (xs : Told). AllFit xs ws) (sym now.3) (change.fits t.view.found t.fits);
            alone = λ id w at has. let was = change.back id w at has in t.alone id was.0 was.1 was.2;
          })
    ];
  }

-- a seat of weight 1 is split off
pub split_quiet : (vs : List View) (id : ℕ) (v : View) → 2 ≤ v.weight → get_elem? vs id ≡ opt.some v → Quiet vs (set vs id (less v) ++ resting 1 v.seen ∷ [])
split_quiet vs id v heavy at = record {
  weights = omega (arith, total_snoc (set vs id (less v)) (resting 1 v.seen), total_set vs id v (less v) at);
  fits = λ xs all j w there. elim (at_snoc (set vs id (less v)) (resting 1 v.seen) w j there) [
    | inl old ↦ elim (at_set vs id j (less v) w old) [
      | inl here ↦ subst (λ (u : View). Fits xs u) here.1 (let f = all id v at in record { seen = f.seen; notes = f.notes; alive = inr (omega arith) })
      | inr other ↦ all j w other.1
    ]
    | inr new ↦ subst (λ (u : View). Fits xs u) new (record { seen = (all id v at).seen; notes = tt; alive = inr (omega arith) })
  ];
  back = λ j w there has. elim (at_snoc (set vs id (less v)) (resting 1 v.seen) w j there) [
    | inl old ↦ elim (at_set vs id j (less v) w old) [
      | inl here ↦ (v, subst (λ (k : ℕ). get_elem? vs k ≡ opt.some v) (sym here.0) at, ap (λ (u : View). u.turn) here.1 ∙ has)
      | inr other ↦ (w, other.1, has)
    ]
    | inr new ↦ absurd (not_both w has (ap (λ (u : View). u.turn) (sym new)))
  ];
  on = λ j u there has. elim (one_or_other j id) [
    | inl here ↦ (let same : v ≡ u = same_at vs id v u at (subst (λ (k : ℕ). get_elem? vs k ≡ opt.some u) here there) in (
      less v,
      at_longer (set vs id (less v)) (resting 1 v.seen ∷ []) j (less v) (subst (λ (k : ℕ). get_elem? (set vs id (less v)) k ≡ opt.some (less v)) (sym here) (set_there vs id v (less v) at)),
      ap (λ (x : View). x.turn) same ∙ has,
      ap (λ (x : View). x.found) same,
    ))
    | inr other ↦ (u, at_longer (set vs id (less v)) (resting 1 v.seen ∷ []) j u (set_else vs id j (less v) other ∙ there), has, refl)
  ];
}

-- two seats become one
pub join_quiet : (vs : List View) (id other : ℕ) (v w : View) → 0 < v.weight → v.turn ≡ false → w.turn ≡ false → other ≢ id
    → get_elem? vs id ≡ opt.some v → get_elem? (set vs id (both v w)) other ≡ opt.some w → Quiet vs (set (set vs id (both v w)) other spent)
join_quiet vs id other v w some free_v free_w apart at_v set_w =
    let us = set vs id (both v w) in
    let at_w : get_elem? vs other ≡ opt.some w = sym (set_else vs id other (both v w) apart) ∙ set_w in
    record {
      weights = omega (arith, total_set us other w spent set_w, total_set vs id v (both v w) at_v);
      fits = λ xs all j x there. elim (at_set us other j spent x there) [
        | inl gone ↦ subst (λ (u : View). Fits xs u) gone.1 (record { seen = (xs, refl); notes = tt; alive = inl refl })
        | inr left ↦ elim (at_set vs id j (both v w) x left.1) [
          | inl here ↦ subst (λ (u : View). Fits xs u) here.1 (record {
            seen = longer_within v.seen w.seen xs (all id v at_v).seen (all other w at_w).seen;
            notes = to_longer v.seen w.seen xs (all id v at_v).seen (all other w at_w).seen;
            alive = inr (omega arith);
          })
          | inr same ↦ all j x same.1
        ]
      ];
      back = λ j x there has. elim (at_set us other j spent x there) [
        | inl gone ↦ absurd (not_both x has (ap (λ (u : View). u.turn) (sym gone.1)))
        | inr left ↦ elim (at_set vs id j (both v w) x left.1) [
          | inl here ↦ absurd (not_both x has (ap (λ (u : View). u.turn) (sym here.1) ∙ free_v))
          | inr same ↦ (x, same.1, has)
        ]
      ];
      on = λ j u there has.
          let not_id : j ≢ id = λ e. not_both u has (ap (λ (x : View). x.turn) (same_at vs id u v (subst (λ (k : ℕ). get_elem? vs k ≡ opt.some u) e there) at_v) ∙ free_v) in
          let not_other : j ≢ other = λ e. not_both u has (ap (λ (x : View). x.turn) (same_at vs other u w (subst (λ (k : ℕ). get_elem? vs k ≡ opt.some u) e there) at_w) ∙ free_w) in
          (u, set_else us other j spent not_other ∙ (set_else vs id j (both v w) not_id ∙ there), has, refl);
    }

-- notes are dropped
pub look_quiet : (vs : List View) (id : ℕ) (v : View) → get_elem? vs id ≡ opt.some v → Quiet vs (set vs id (looked v))
look_quiet vs id v at = record {
  weights = omega (arith, total_set vs id v (looked v) at);
  fits = λ xs all j w there. elim (at_set vs id j (looked v) w there) [
    | inl here ↦ subst (λ (u : View). Fits xs u) here.1 (record {
      seen = (all id v at).seen;
      notes = tt;
      alive = elim (all id v at).alive [ inl gone ↦ inl (ap looked gone) | inr some ↦ inr some ];
    })
    | inr other ↦ all j w other.1
  ];
  back = λ j w there has. elim (at_set vs id j (looked v) w there) [
    | inl here ↦ (v, subst (λ (k : ℕ). get_elem? vs k ≡ opt.some v) (sym here.0) at, ap (λ (u : View). u.turn) here.1 ∙ has)
    | inr other ↦ (w, other.1, has)
  ];
  on = λ j u there has. elim (one_or_other j id) [
    | inl here ↦ (let same : v ≡ u = same_at vs id v u at (subst (λ (k : ℕ). get_elem? vs k ≡ opt.some u) here there) in (
      looked v,
      subst (λ (k : ℕ). get_elem? (set vs id (looked v)) k ≡ opt.some (looked v)) (sym here) (set_there vs id v (looked v) at),
      ap (λ (x : View). x.turn) same ∙ has,
      ap (λ (x : View). x.found) same,
    ))
    | inr other ↦ (u, set_else vs id j (looked v) other ∙ there, has, refl)
  ];
}
