-- What stands before the first question mark.
use Rattle.std.proofs.Common.{◌≡◌, ℕ, suc, ◌+◌, List, [], ◌∷◌, length, take, Bool, true, false, cond, not, ◌==◌, refl, sym, ap, ◌∙◌, arith}
use Rattle.std.proofs.Math.Seq.{take-length}
use Rattle.std.specs.List.{position_or_len, before_first}
use Rattle.scitt_answers.specs.Routes.{path_of}

path_case : (b : ℕ) (bs path : List ℕ) (n : ℕ) (test : Bool) → take n bs ≡ path → take (cond (not test) (1 + n) 0) (b ∷ bs) ≡ cond test [] (b ∷ path)
path_case b bs path n true e = refl
path_case b bs path n false e =
    let next : 1 + n ≡ suc n = omega arith in
    ap (λ (m : ℕ). take m (b ∷ bs)) next ∙ ap (λ (t : List ℕ). b ∷ t) e

pub path_is : (bs : List ℕ) → before_first (λ b. b == 63) bs ≡ path_of bs
path_is [] = refl
path_is (b ∷ bs) = path_case b bs (path_of bs) (position_or_len (λ b. b == 63) bs) (b == 63) (path_is bs)

pub path_whole : (bs : List ℕ) → position_or_len (λ b. b == 63) bs ≡ length bs → bs ≡ path_of bs
path_whole bs none = sym (take-length bs) ∙ ap (λ (n : ℕ). take n bs) (sym none) ∙ path_is bs
