-- Chains, step by step: one step at the front, no step, and two chains end to end.
use Rattle.std.proofs.Common.{◌≡◌, ℕ, zero, suc, ◌+◌, ◌-◌, ◌<◌, ◌≤◌, List, refl, sym, arith}
use Rattle.lms_ots.specs.declared.chains.OtsAt.{OtsAt}
use Rattle.lms_ots.specs.Chains.{step, steps, chain}

pub chain_ended : (place : OtsAt) (i j : ℕ) (x : List ℕ) → chain place i j j x ≡ x
unfolding steps
chain_ended place i j x =
    let none : j - j ≡ 0 = omega arith in
    rw none refl

pub chain_more : (place : OtsAt) (i j end : ℕ) (x : List ℕ) → j < end → chain place i j end x ≡ chain place i (j + 1) end (step place i j x)
unfolding steps
chain_more place i j end x h =
    let one : end - j ≡ suc (end - (j + 1)) = omega arith in
    let next : suc j ≡ j + 1 = omega arith in
    rw (one, ← next) refl

pub steps-add : (place : OtsAt) (i j m n : ℕ) (x : List ℕ) → steps place i j (m + n) x ≡ steps place i (j + m) n (steps place i j m x)
unfolding steps
steps-add place i j zero n x =
    let none : zero + n ≡ n = omega arith in
    let same : j + zero ≡ j = omega arith in
    rw (none, same) refl
steps-add place i j (suc m) n x =
    let one : suc m + n ≡ suc (m + n) = omega arith in
    let next : j + suc m ≡ suc j + m = omega arith in
    rw (one, next) (steps-add place i (suc j) m n (step place i j x))

-- the steps before `middle` and those from it on make the whole chain
pub chain_whole : (place : OtsAt) (i first middle end : ℕ) (x : List ℕ) → first ≤ middle → middle ≤ end
    → chain place i middle end (chain place i first middle x) ≡ chain place i first end x
chain_whole place i first middle end x h k =
    let whole : end - first ≡ (middle - first) + (end - middle) = omega arith in
    let there : first + (middle - first) ≡ middle = omega arith in
    let e = steps-add place i first (middle - first) (end - middle) x in
    sym (rw whole (rw there at e))
