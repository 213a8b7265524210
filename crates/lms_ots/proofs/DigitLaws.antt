-- The sum of the digits' distances to the greatest digit, with one digit more.
use Rattle.std.proofs.Common.{◌≡◌, ℕ, ◌+◌, ◌-◌, ◌^◌, List, [], ◌∷◌, ap, ◌∙◌, refl, arith, sum, map}
use Rattle.std.specs.List.{range_with_len}
use Rattle.std.proofs.lemmas.Grind.{fold-append}
use Rattle.std.proofs.lemmas.List.FromFn.{map-range_with_len_more}
use Rattle.lms_ots.specs.Digits.{coef, shortfall}

pub shortfall_none : (s : List ℕ) (w : ℕ) → shortfall s w 0 ≡ 0
unfolding shortfall
shortfall_none s w = refl

pub shortfall_more : (s : List ℕ) (w n : ℕ) → shortfall s w (n + 1) ≡ shortfall s w n + (2 ^ w - 1 - coef s n w)
unfolding shortfall
shortfall_more s w n =
    let f = λ (i : ℕ). 2 ^ w - 1 - coef s i w in
    ap sum (map-range_with_len_more f 0 n n (omega arith)) ∙ fold-append ◌+◌ 0 (map f (range_with_len 0 n)) (f n ∷ [])
