-- Parts of joined byte strings, and words in them.
use Rattle.std.proofs.Common.{◌≡◌, ℕ, zero, suc, ◌+◌, ◌*◌, ◌^◌, ◌<◌, ◌≤◌, inl, inr, List, ◌++◌, length, get_or, take, drop, refl, ap, sym, subst, ◌∙◌, arith, add-zero, append_assoc, length-append, length-take, length-drop}
use Rattle.std.proofs.lemmas.List.{take_at, take_all, take-append-le, drop_at, drop-append-le, drop-drop, get_or-append-add, get_or-take, get_or-drop}
use Rattle.std.proofs.lemmas.Nat.{from_be_bytes-to_be_bytes_4}
use Rattle.std.proofs.lemmas.Bool.{cases_lt}
use Rattle.std.proofs.Math.Nat.{mul-le-mul_left}
use Rattle.lms_ots.specs.Words.{u16str, u32str, u32_at, part, joined}
use Rattle.lms_ots.proofs.JoinedLaws.{joined_none, joined_next}

pub length-u32str : (x : ℕ) → length (u32str x) ≡ 4
unfolding u32str
length-u32str x = refl

pub length-u16str : (x : ℕ) → length (u16str x) ≡ 2
unfolding u16str
length-u16str x = refl

-- the word that a string begins with
pub u32_at-u32str : (x : ℕ) (rest : List ℕ) → x < 2 ^ 32 → u32_at (u32str x ++ rest) 0 ≡ x
unfolding u32_at u32str
u32_at-u32str x rest h = from_be_bytes-to_be_bytes_4 x h

-- a word behind `front`
pub u32_at-behind : (front rest : List ℕ) (k : ℕ) → length front ≡ k → u32_at (front ++ rest) k ≡ u32_at rest 0
unfolding u32_at
u32_at-behind front rest k h =
    let at = λ (j : ℕ). subst (λ (n : ℕ). get_or (front ++ rest) (n + j) 0 ≡ get_or rest j 0) h (get_or-append-add front rest j 0) in
    let at0 = rw add-zero at (at 0) in
    rw (at0, at 1, at 2, at 3) refl

-- a word in a part
pub u32_at-within : (s : List ℕ) (k n j : ℕ) → j + 4 ≤ n → u32_at (part s k n) j ≡ u32_at s (k + j)
unfolding u32_at part
u32_at-within s k n j h =
    let at : (i : ℕ) → i < 4 → get_or (take n (drop k s)) (j + i) 0 ≡ get_or s (k + j + i) 0 =
    λ i below.
    let same : k + (j + i) ≡ k + j + i = omega arith in
    get_or-take n (drop k s) (j + i) 0 (omega arith) ∙ rw same at (get_or-drop k s (j + i) 0) in
    let at0 : get_or (take n (drop k s)) j 0 ≡ get_or s (k + j) 0 = get_or-take n (drop k s) j 0 (omega arith) ∙ get_or-drop k s j 0 in
    rw (at0, at 1 (omega arith), at 2 (omega arith), at 3 (omega arith)) refl

pub length-part : (s : List ℕ) (k n : ℕ) → k + n ≤ length s → length (part s k n) ≡ n
unfolding part
length-part s k n h = simp (length-take, length-drop) (omega arith)

pub part_whole : (s : List ℕ) (n : ℕ) → length s ≡ n → part s 0 n ≡ s
unfolding part
part_whole s n h = take_all n s (omega arith)

-- a part of what stands in front
pub part-front : (front rest : List ℕ) (k n : ℕ) → k + n ≤ length front → part (front ++ rest) k n ≡ part front k n
unfolding part
part-front front rest k n h =
    let whole : k ≤ length front = omega arith in
    let room : n ≤ length (drop k front) = omega (arith, length-drop k front) in
    ap (take n) (drop-append-le k front rest whole) ∙ take-append-le n (drop k front) rest room

-- a part of what stands behind
pub part-behind : (front rest : List ℕ) (k m n : ℕ) → length front ≡ k → part (front ++ rest) (k + m) n ≡ part rest m n
unfolding part
part-behind front rest k m n h =
    ap (take n) (sym (drop-drop m k (front ++ rest)) ∙ ap (drop m) (drop_at front rest k h))

-- the string behind `front`, up to what follows it
pub part-middle : (front middle rest : List ℕ) (k n : ℕ) → length front ≡ k → length middle ≡ n → part (front ++ middle ++ rest) k n ≡ middle
unfolding part
part-middle front middle rest k n h e =
    let behind = rw add-zero at (part-behind front (middle ++ rest) k 0 n h) in
    rw append_assoc (behind ∙ take_at middle rest n e)

pub length-joined : (f : ℕ → List ℕ) (m n : ℕ) → ((i : ℕ) → i < n → length (f i) ≡ m) → length (joined f n) ≡ m * n
length-joined f m zero each = rw joined_none (omega arith)
length-joined f m (suc n) each =
    let before = length-joined f m n (λ i h. each i (omega arith)) in
    let last = each n (omega arith) in
    rw joined_next (omega (arith, length-append (joined f n) (f n), before, last))

-- one of n strings of m bytes
pub part-joined : (f : ℕ → List ℕ) (m n i : ℕ) → ((j : ℕ) → j < n → length (f j) ≡ m) → i < n → part (joined f n) (m * i) m ≡ f i
part-joined f m zero i each h = absurd (omega arith)
part-joined f m (suc n) i each h =
    let front : (j : ℕ) → j < n → length (f j) ≡ m = λ j k. each j (omega arith) in
    let len = length-joined f m n front in
    elim (cases_lt i n) [
      | inl below ↦
          let room : m * i + m ≤ length (joined f n) = omega (arith, len, mul-le-mul_left m (let next : i + 1 ≤ n = omega arith in next)) in
          rw joined_next (part-front (joined f n) (f n) (m * i) m room ∙ part-joined f m n i front below)
      | inr above ↦
          let last : i ≡ n = omega arith in
          let behind = rw add-zero at (part-behind (joined f n) (f n) (m * n) 0 m len) in
          rw (joined_next, last) (behind ∙ part_whole (f n) m (each n (omega arith)))
    ]

pub joined_same : (f g : ℕ → List ℕ) (n : ℕ) → ((i : ℕ) → i < n → f i ≡ g i) → joined f n ≡ joined g n
joined_same f g zero each = joined_none f ∙ sym (joined_none g)
joined_same f g (suc n) each =
    let before = joined_same f g n (λ i h. each i (omega arith)) in
    let last = each n (omega arith) in
    joined_next f n ∙ ap (λ xs. xs ++ f n) before ∙ ap (λ x. joined g n ++ x) last ∙ sym (joined_next g n)
