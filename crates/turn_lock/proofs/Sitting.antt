-- Seats at rest, and what a clause sees of them.
use Rattle.std.proofs.Common.{◌≡◌, ℕ, ◌<◌, ◌≤◌, ◌^◌, List, [], ◌∷◌, length, take, refl, sym, ap, ◌∙◌, subst, arith, Option, None, Some}
use Rattle.std.proofs.lemmas.List.{take_all}
use mathlib.Core.List.{IsPrefix}
use Rattle.atomic_table.specs.Seated.{TableId}
use Rattle.atomic_table.specs.Table.{Me, rest}
use Rattle.turn_lock.specs.declared.view.View.{View}
use Rattle.turn_lock.specs.Told.{Told, told_list, TellsAlike}
use Rattle.turn_lock.specs.Views.{resting}
use Rattle.turn_lock.specs.Seats.{seen_of, IsAtRest}
use Rattle.turn_lock.specs.Calls.{caller_of, fresh}
use Rattle.turn_lock.proofs.Prefixes.{prefix-take}

-- a length that no list of 64 bits exceeds cuts nothing off
pub fresh_view : (lock : TableId) (views : List View) (weight : ℕ) → length (seen_of views) < 2 ^ 64
    → caller_of lock views weight 18446744073709551615 (0 ∷ 0 ∷ []) (0 ∷ 0 ∷ []) ≡ fresh lock weight (seen_of views)
fresh_view lock views weight short =
    ap (λ (f : Told). record { lock = lock; weight = weight; seen = seen_of views; found = f; marks_found = 0 ∷ 0 ∷ []; marks_left = 0 ∷ 0 ∷ [] })
    (take_all 18446744073709551615 (seen_of views) (omega arith))

-- the view of a seat at rest
pub rests : (views vs : List View) (weight : ℕ) (v : View) → IsAtRest views weight → vs ≡ views → vs ≡ v ∷ [] → v ≡ resting weight (seen_of views)
rests views vs weight v at_rest same is = let one : v ∷ [] ≡ resting weight (seen_of views) ∷ [] = sym is ∙ same ∙ at_rest.view in cc

-- what the seat has seen begins what its view's list begins
pub grown_from : (views vs : List View) (weight : ℕ) (v : View) (seen xs : Told) → IsAtRest views weight → vs ≡ views → vs ≡ v ∷ [] → seen_of views ≡ seen → IsPrefix v.seen xs → IsPrefix seen xs
grown_from views vs weight v seen xs at_rest same is told begins =
    subst (λ (ys : Told). IsPrefix ys xs) (ap (λ (u : View). u.seen) (rests views vs weight v at_rest same is) ∙ told) begins

-- a seat whose one view is at rest
pub is_at_rest : (views : List View) (weight : ℕ) (v : View) (seen : Told) → views ≡ v ∷ [] → v ≡ resting weight seen → 0 < weight → weight ≤ 1024 → length seen < 2 ^ 64 → IsAtRest views weight
is_at_rest views weight v seen one is least most short =
    let all : views ≡ resting weight seen ∷ [] = one ∙ ap (λ (u : View). u ∷ []) is in
    subst (λ (vs : List View). IsAtRest vs weight) (sym all) (record { view = refl; least = least; most = most; short = short })

pub seen_at : (views : List View) (weight : ℕ) (v : View) (seen : Told) → views ≡ v ∷ [] → v ≡ resting weight seen → seen_of views ≡ seen
seen_at views weight v seen one is = ap seen_of one ∙ ap (λ (u : View). u.seen) is

-- the slot that a seat took last
pub has_slot : {S : Type 0} (carried : List (ℕ × S)) (x : S) → carried ≡ (0, x) ∷ [] → carried ≡ (0, x) ∷ rest carried
has_slot carried x is = is ∙ ap (λ c. (0, x) ∷ rest c) (sym is)

pub put_there : {S : Type 0} (old new : Me S View) (x y : S) → old.1 ≡ (0, x) ∷ [] → new ≡ (old.0, (0, y) ∷ rest old.1) → new ≡ (old.0, (0, y) ∷ [])
put_there {S} old new x y out is = is ∙ ap (λ (c : List (ℕ × S)). (old.0, (0, y) ∷ rest c)) out

-- the list found is what the list left is cut to
pub found_list : (before after : Option Told) (n : ℕ) → ((xs : Told) → before ≡ Some xs → n ≡ length xs) → TellsAlike before after → IsPrefix (told_list before) (told_list after)
    → take n (told_list after) ≡ told_list before
found_list None None n len alike begins = take_all n [] (omega arith)
found_list None (Some ys) n len alike begins = absurd alike
found_list (Some xs) None n len alike begins = absurd alike
found_list (Some xs) (Some ys) n len alike begins = ap (λ (k : ℕ). take k ys) (len xs refl) ∙ prefix-take xs ys begins

pub short_list : (told : Option Told) (n : ℕ) → n < 2 ^ 64 → ((xs : Told) → told ≡ Some xs → n ≡ length xs) → length (told_list told) < 2 ^ 64
short_list None n fits len = omega arith
short_list (Some xs) n fits len = omega (arith, len xs refl)
