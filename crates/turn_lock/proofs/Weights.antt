-- Views by their number, and their weights in all.
use Rattle.std.proofs.Common.{◌≡◌, ◌≢◌, ℕ, zero, suc, ◌+◌, ◌≤◌, ◌⊎◌, List, [], ◌∷◌, ◌++◌, set, refl, sym, ap, ◌∙◌, inl, inr, arith}
use mathlib.Core.Option.{some, some-injective, some-ne-none}
use mathlib.Core.Logic.{dite}
use native.Mathlib.Decide.{ℕ_discrete}
use lib.ListN.{get_elem?}
use Rattle.turn_lock.specs.declared.view.View.{View}
use Rattle.turn_lock.specs.Turns.{total}

pub one_or_other : (i j : ℕ) → (i ≡ j) ⊎ (i ≢ j)
one_or_other i j = dite (ℕ_discrete i j) (λ e. inl e) (λ n. inr n)

pub set_there : (vs : List View) (id : ℕ) (v w : View) → get_elem? vs id ≡ some v → get_elem? (set vs id w) id ≡ some w
set_there [] id v w at = absurd (some-ne-none v (sym at))
set_there (u ∷ us) zero v w at = refl
set_there (u ∷ us) (suc id) v w at = set_there us id v w at

pub same_at : (vs : List View) (id : ℕ) (v w : View) → get_elem? vs id ≡ some v → get_elem? vs id ≡ some w → v ≡ w
same_at vs id v w p q = some-injective v w (sym p ∙ q)

pub total_set : (vs : List View) (id : ℕ) (v w : View) → get_elem? vs id ≡ some v → total (set vs id w) + v.weight ≡ total vs + w.weight
total_set [] id v w at = absurd (some-ne-none v (sym at))
total_set (u ∷ us) zero v w at = let same : u.weight ≡ v.weight = ap (λ (x : View). x.weight) (some-injective u v at) in omega arith
total_set (u ∷ us) (suc id) v w at = omega (arith, total_set us id v w at)

pub total_snoc : (vs : List View) (v : View) → total (vs ++ v ∷ []) ≡ total vs + v.weight
total_snoc [] v = omega arith
total_snoc (u ∷ us) v = omega (arith, total_snoc us v)

pub total_one : (vs : List View) (id : ℕ) (v : View) → get_elem? vs id ≡ some v → v.weight ≤ total vs
total_one [] id v at = absurd (some-ne-none v (sym at))
total_one (u ∷ us) zero v at = let same : u.weight ≡ v.weight = ap (λ (x : View). x.weight) (some-injective u v at) in omega arith
total_one (u ∷ us) (suc id) v at = omega (arith, total_one us id v at)

pub total_two : (vs : List View) (i j : ℕ) (v w : View) → get_elem? vs i ≡ some v → get_elem? vs j ≡ some w → i ≢ j → v.weight + w.weight ≤ total vs
total_two [] i j v w p q apart = absurd (some-ne-none v (sym p))
total_two (u ∷ us) zero zero v w p q apart = absurd (apart refl)
total_two (u ∷ us) zero (suc j) v w p q apart = let same : u.weight ≡ v.weight = ap (λ (x : View). x.weight) (some-injective u v p) in omega (arith, total_one us j w q)
total_two (u ∷ us) (suc i) zero v w p q apart = let same : u.weight ≡ w.weight = ap (λ (x : View). x.weight) (some-injective u w q) in omega (arith, total_one us i v p)
total_two (u ∷ us) (suc i) (suc j) v w p q apart = omega (arith, total_two us i j v w p q (λ e. apart (ap suc e)))
