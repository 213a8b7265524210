-- The route that the search finds has a pattern that the path fits.
use Rattle.std.proofs.Common.{◌≡◌, ℕ, zero, suc, ◌+◌, ◌-◌, ◌<◌, ◌≤◌, ◌⊎◌, inl, inr, List, [], ◌∷◌, length, take, drop, Bool, true, false, cond, ◌&&◌, ◌==◌, Option, None, Some, refl, sym, ap, subst, arith, take-append-drop, ltb, length-take, ◌∙◌}
use Rattle.std.proofs.Math.Seq.{take-length}
use Rattle.std.proofs.lemmas.Bool.Decides.{nat_tests}
use Rattle.matchit.specs.Rows.{RowsOf}
use Rattle.matchit.specs.Seek.{own, step, or_else, longest_from, longest_suffix, better, cuts, with_suffix, param_step, seek, segment, has_slash, same_text, slash}
use Rattle.scitt_answers.specs.RouteLaws.{IsRow}
use Rattle.scitt_answers.specs.Fits.{Fits, fits_end, fits_byte, fits_part, fits_rest}

step_case : {K : Type 0} (b x : ℕ) (u : List ℕ) (j : K) (rest : RowsOf K) (t : List ℕ) (k : K) (test : Bool) → (x == b) ≡ test
    → IsRow (cond test ((u, j) ∷ step b rest) (step b rest)) t k → ((x ∷ u ≡ b ∷ t) × (j ≡ k)) ⊎ IsRow (step b rest) t k
step_case b x u j rest t k true e (inl h) = let same : x ≡ b = grind (arith, nat_tests) in inl (rw (same, h.0) refl, h.1)
step_case b x u j rest t k true e (inr h) = inr h
step_case b x u j rest t k false e h = inr h

among_step : {K : Type 0} (b : ℕ) (rs : RowsOf K) (t : List ℕ) (k : K) → IsRow (step b rs) t k → IsRow rs (b ∷ t) k
among_step b [] t k h = h
among_step b (([], j) ∷ rest) t k h = inr (among_step b rest t k h)
among_step b ((x ∷ u, j) ∷ rest) t k h =
    elim (step_case b x u j rest t k (x == b) refl h) [ inl p ↦ inl p | inr p ↦ inr (among_step b rest t k p) ]

own_among : {K : Type 0} (rs : RowsOf K) (k : K) → own rs ≡ Some k → IsRow rs [] k
own_among [] k e = cc e
own_among (([], j) ∷ rest) k e = inl (refl, cc e)
own_among ((x ∷ u, j) ∷ rest) k e = inr (own_among rest k e)

suffix_case : {K : Type 0} (s u : List ℕ) (j : K) (rest : RowsOf K) (t : List ℕ) (k : K) (test : Bool)
    → IsRow (cond test ((u, j) ∷ with_suffix s rest) (with_suffix s rest)) t k → ((u ≡ t) × (j ≡ k)) ⊎ IsRow (with_suffix s rest) t k
suffix_case s u j rest t k true h = h
suffix_case s u j rest t k false h = inr h

among_suffix : {K : Type 0} (s : List ℕ) (rs : RowsOf K) (t : List ℕ) (k : K) → IsRow (with_suffix s rs) t k → IsRow rs t k
among_suffix s [] t k h = h
among_suffix s ((u, j) ∷ rest) t k h =
    elim (suffix_case s u j rest t k (same_text (segment u) s) h) [ inl p ↦ inl p | inr p ↦ inr (among_suffix s rest t k p) ]

-- a suffix that is some is shorter than the segment
abbrev pub IsShort : List ℕ → List ℕ → Type 0
IsShort seg s = 0 < length s → length s < length seg

better_case : (seg best suffix : List ℕ) (test : Bool) → (test ≡ true → length suffix < length seg) → IsShort seg best → IsShort seg (cond test suffix best)
better_case seg best suffix true f h some = f refl
better_case seg best suffix false f h some = h some

cuts_short : (seg best suffix : List ℕ) → (ltb (length best) (length suffix) && cuts seg suffix) ≡ true → length suffix < length seg
cuts_short seg best suffix e = grind (arith, nat_tests)

longest_short : {K : Type 0} (seg best : List ℕ) (rs : RowsOf K) → IsShort seg best → IsShort seg (longest_from seg best rs)
longest_short seg best [] h = h
longest_short seg best ((t, k) ∷ rest) h =
    longest_short seg (better seg best (segment t)) rest (better_case seg best (segment t) _ (cuts_short seg best (segment t)) h)

segment_case : (b : ℕ) (bs : List ℕ) (test : Bool) → length (segment bs) ≤ length bs → length (cond test (b ∷ []) (b ∷ segment bs)) ≤ length bs + 1
segment_case b bs true h = omega arith
segment_case b bs false h = omega arith

segment_short : (path : List ℕ) → length (segment path) ≤ length path
segment_short [] = omega arith
segment_short (b ∷ bs) = let h = segment_case b bs (b == slash) (segment_short bs) in omega (arith, h)

-- what a parameter takes, by whether a suffix was found and whether the path has a slash
abbrev pub step_by : {K : Type 0} → RowsOf K → List ℕ → Bool → Bool → ℕ × RowsOf K
step_by rs path true slashed =
    (length (segment path) - length (longest_suffix (segment path) rs), with_suffix (longest_suffix (segment path) rs) rs)
step_by rs path false true = (0, [])
step_by rs path false false = (length path, rs)

step_is : {K : Type 0} (rs : RowsOf K) (path : List ℕ) (long slashed : Bool)
    → cond {A = ℕ × RowsOf K} long (length (segment path) - length (longest_suffix (segment path) rs), with_suffix (longest_suffix (segment path) rs) rs) (cond {A = ℕ × RowsOf K} slashed (0, []) (length path, rs))
    ≡ step_by rs path long slashed
step_is rs path true slashed = refl
step_is rs path false true = refl
step_is rs path false false = refl

pub param_step_is : {K : Type 0} (rs : RowsOf K) (path : List ℕ) → param_step rs path ≡ step_by rs path (ltb 0 (length (longest_suffix (segment path) rs))) (has_slash path)
unfolding param_step
param_step_is rs path = step_is rs path (ltb 0 (length (longest_suffix (segment path) rs))) (has_slash path)

-- a text has no slash before the last byte of its segment
front_case : (b m : ℕ) (bs : List ℕ) (test : Bool) → (m < length (segment bs) → has_slash (take m bs) ≡ false)
    → suc m < length (cond test (b ∷ []) (b ∷ segment bs)) → cond test true (has_slash (take m bs)) ≡ false
front_case b m bs true f below = absurd (omega arith)
front_case b m bs false f below = f (omega arith)

front_plain : (path : List ℕ) (n : ℕ) → n < length (segment path) → has_slash (take n path) ≡ false
front_plain path zero below = refl
front_plain [] (suc m) below = absurd (omega arith)
front_plain (b ∷ bs) (suc m) below = front_case b m bs (b == slash) (front_plain bs m) below

-- what a parameter takes: one byte or more, not more than there are, and none of them a slash
pub record Takes (path : List ℕ) (n : ℕ) : Type 0 where
  pub some : 0 < n
  pub within : n ≤ length path
  pub plain : has_slash (take n path) ≡ false

takes : {K : Type 0} (rs : RowsOf K) (path : List ℕ) (long slashed : Bool) (t : List ℕ) (k : K) → 0 < length path
    → (long ≡ true → (0 < length (longest_suffix (segment path) rs)) × (length (longest_suffix (segment path) rs) < length (segment path)))
    → has_slash path ≡ slashed
    → IsRow (step_by rs path long slashed).1 t k → Takes path (step_by rs path long slashed).0 × IsRow rs t k
takes rs path true slashed t k some f e a =
    let less = f refl in (
      record {
        some = omega (arith, less.1);
        within = omega (arith, segment_short path);
        plain = front_plain path (length (segment path) - length (longest_suffix (segment path) rs)) (omega (arith, less.0, less.1));
      },
      among_suffix _ rs t k a,
    )
takes rs path false true t k some f e a = absurd a
takes rs path false false t k some f e a =
    (record { some = some; within = omega arith; plain = ap has_slash (take-length path) ∙ e }, a)

long_is : (n : ℕ) → ltb 0 n ≡ true → 0 < n
long_is n e = grind (arith, nat_tests)

pub param_takes : {K : Type 0} (rs : RowsOf K) (path : List ℕ) (t : List ℕ) (k : K) → 0 < length path
    → IsRow (step_by rs path (ltb 0 (length (longest_suffix (segment path) rs))) (has_slash path)).1 t k
    → Takes path (step_by rs path (ltb 0 (length (longest_suffix (segment path) rs))) (has_slash path)).0 × IsRow rs t k
param_takes rs path t k some h =
    takes rs path (ltb 0 (length (longest_suffix (segment path) rs))) (has_slash path) t k some
    (λ e. (long_is _ e, longest_short (segment path) [] rs (λ none. absurd (omega arith)) (long_is _ e))) refl h

or_else_case : {K : Type 0} (x y : Option K) (k : K) → or_else x y ≡ Some k → (x ≡ Some k) ⊎ (y ≡ Some k)
or_else_case None y k e = inr e
or_else_case (Some j) y k e = inl e

part_fits : (n b : ℕ) (path t : List ℕ) → Takes (b ∷ path) n → Fits t (drop (n - 1) path) → Fits (256 ∷ t) (b ∷ path)
part_fits n b path t takes h =
    let less : n ≡ suc (n - 1) = omega (arith, takes.some) in
    let behind : drop n (b ∷ path) ≡ drop (n - 1) path = ap (λ (i : ℕ). drop i (b ∷ path)) less in
    let long : 0 < length (take n (b ∷ path)) = omega (arith, takes.some, takes.within, length-take n (b ∷ path)) in
    subst (Fits (256 ∷ t)) (take-append-drop n (b ∷ path)) (fits_part (take n (b ∷ path)) t (drop n (b ∷ path)) long takes.plain (subst (Fits t) (sym behind) h))

-- the same of the step itself
pub step_takes : {K : Type 0} (rs : RowsOf K) (path : List ℕ) (t : List ℕ) (k : K) → 0 < length path
    → IsRow (param_step rs path).1 t k → Takes path (param_step rs path).0 × IsRow rs t k
step_takes {K} rs path t k some h =
    subst (λ (s : ℕ × RowsOf K). IsRow s.1 t k → Takes path s.0 × IsRow rs t k) (sym (param_step_is rs path)) (param_takes rs path t k some) h

-- the pattern of the row that a path is found to match spells the path
pub seek_fits : {K : Type 0} (path : List ℕ) (skip : ℕ) (rs : RowsOf K) (k : K) → seek skip rs path ≡ Some k
    → (t : List ℕ) × IsRow rs t k × Fits t (drop skip path)
unfolding seek
seek_fits [] zero rs k e = ([], own_among rs k e, fits_end)
seek_fits [] (suc skip) rs k e = ([], own_among rs k e, fits_end)
seek_fits (b ∷ path) (suc skip) rs k e = seek_fits path skip rs k e
seek_fits (b ∷ path) zero rs k e =
    elim (or_else_case _ _ k e) [
      | inl p ↦ (let r = seek_fits path 0 (step b rs) k p in (b ∷ r.0, among_step b rs r.0 k r.1, fits_byte b r.0 path r.2))
      | inr q ↦ elim (or_else_case _ _ k q) [
        | inl p ↦ (
            let r = seek_fits path ((param_step (step 256 rs) (b ∷ path)).0 - 1) (param_step (step 256 rs) (b ∷ path)).1 k p in
            let f = step_takes (step 256 rs) (b ∷ path) r.0 k (omega arith) r.1 in
            (256 ∷ r.0, among_step 256 rs r.0 k f.1, part_fits (param_step (step 256 rs) (b ∷ path)).0 b path r.0 f.0 r.2)
            )
        | inr p ↦ (257 ∷ [], among_step 257 rs [] k (own_among (step 257 rs) k p), fits_rest (b ∷ path))
      ]
    ]
