-- Noting the roots of the whole subtrees that the last leaf ends.
use Rattle.std.proofs.Common.{◌≡◌, ℕ, zero, suc, ◌+◌, ◌-◌, ◌*◌, ◌/◌, ◌%◌, ◌^◌, ◌<◌, ◌≤◌, List, [], ◌∷◌, ◌++◌, length, set, get_or, refl, sym, ap, ap₂, ◌∙◌, inl, inr, arith, length-append, length-set}
use Rattle.std.proofs.Math.Nat.{two-pow-succ}
use Rattle.std.proofs.lemmas.Nat.{pow_pos, mod-mul-add, div-add-mod'}
use Rattle.std.proofs.lemmas.Bool.{cases_lt, cases_eq}
use Rattle.std.proofs.lemmas.List.{get_or-set_same, get_or-set_other}
use Rattle.merkle_tree.specs.Mth.{node_hash, split_point}
use Rattle.merkle_tree.specs.Subtrees.{root_of_run, HasInner, HasInnerUpTo}
use Rattle.merkle_tree.proofs.Splits.{split_point-between}
use Rattle.merkle_tree.proofs.Roots.{node_of}
use Rattle.merkle_tree.proofs.RunRoots.{power_parts, run_front, run_node, run_one}

-- an odd number of times a power of two is so in one way
odd_parts : (i j a b : ℕ) → 2 ^ i * (2 * a + 1) ≡ 2 ^ j * (2 * b + 1) → (i ≡ j) × (a ≡ b)
odd_parts zero zero a b e = (refl, omega arith)
odd_parts zero (suc j) a b e = absurd (omega (arith, twice_of j (2 * b + 1)))
  where
    twice_of : (j x : ℕ) → 2 ^ suc j * x ≡ 2 * (2 ^ j * x)
    twice_of j x = ap (λ p. p * x) (two-pow-succ j) ∙ (let e : (2 ^ j + 2 ^ j) * x ≡ 2 * (2 ^ j * x) = omega arith in e)
odd_parts (suc i) zero a b e = absurd (omega (arith, twice_of i (2 * a + 1)))
  where
    twice_of : (j x : ℕ) → 2 ^ suc j * x ≡ 2 * (2 ^ j * x)
    twice_of j x = ap (λ p. p * x) (two-pow-succ j) ∙ (let e : (2 ^ j + 2 ^ j) * x ≡ 2 * (2 ^ j * x) = omega arith in e)
odd_parts (suc i) (suc j) a b e =
    let rest = odd_parts i j a b (omega (arith, twice_of i (2 * a + 1), twice_of j (2 * b + 1))) in
    (ap suc rest.0, rest.1)
  where
    twice_of : (j x : ℕ) → 2 ^ suc j * x ≡ 2 * (2 ^ j * x)
    twice_of j x = ap (λ p. p * x) (two-pow-succ j) ∙ (let e : (2 ^ j + 2 ^ j) * x ≡ 2 * (2 ^ j * x) = omega arith in e)

-- the middle of a subtree stands within its leaves
middle_within : (i q : ℕ) → 2 ^ i * (2 * q + 1) < 2 ^ suc i * suc q
middle_within i q =
    let twice : 2 ^ suc i * suc q ≡ 2 ^ i * suc q + 2 ^ i * suc q = ap (λ p. p * suc q) (two-pow-succ i) ∙ (let e : (2 ^ i + 2 ^ i) * suc q ≡ 2 ^ i * suc q + 2 ^ i * suc q = omega arith in e) in
    omega (arith, twice, pow_pos i)

get_or-front : (xs ys : List (List ℕ)) (i : ℕ) → i < length xs → get_or (xs ++ ys) i [] ≡ get_or xs i []
get_or-front [] ys i within = absurd (omega arith)
get_or-front (x ∷ xs) ys zero within = refl
get_or-front (x ∷ xs) ys (suc i) within = get_or-front xs ys i (omega arith)

-- a further leaf ends no subtree that was noted
pub noted_before : (leaves inner : List (List ℕ)) (leaf blank : List ℕ) → HasInner leaves inner → length inner ≡ length leaves → HasInnerUpTo 0 (leaves ++ leaf ∷ []) (inner ++ blank ∷ [])
noted_before leaves inner leaf blank has same i q within last =
    let room : 2 ^ suc i * suc q ≤ length leaves = elim (cases_lt (length leaves) (2 ^ suc i * suc q)) [
      | inl more ↦ absurd (omega (arith, last (omega (arith, length-append leaves (leaf ∷ [])))))
      | inr less ↦ less
    ] in
    get_or-front inner (blank ∷ []) (2 ^ i * (2 * q + 1)) (omega (arith, middle_within i q, same))
    ∙ has i q room
    ∙ sym (run_front (2 ^ suc i * q) (2 ^ suc i) leaves (leaf ∷ []) (omega arith))

-- after some turns: the last leaf ends a whole subtree of `half` leaves, of which `node` is the root
pub record Notes (leaves inner : List (List ℕ)) (half : ℕ) (node : List ℕ) : Type 0 where
  pub power : ℕ
  pub count : ℕ
  pub half_is : half ≡ 2 ^ power
  pub size : length leaves ≡ 2 ^ power * suc count
  pub root : node ≡ root_of_run leaves (2 ^ power * count) (2 ^ power)
  pub places : length inner ≡ length leaves
  pub noted : HasInnerUpTo power leaves inner

pub notes_first : (leaves inner : List (List ℕ)) → 0 < length leaves → length inner ≡ length leaves → HasInnerUpTo 0 leaves inner → Notes leaves inner 1 (get_or leaves (length leaves - 1) [])
notes_first leaves inner some same has = record {
  power = 0;
  count = length leaves - 1;
  half_is = refl;
  size = omega arith;
  root = run_one (length leaves - 1) leaves (omega arith) ∙ (let place : length leaves - 1 ≡ 1 * (length leaves - 1) = omega arith in ap (λ a. root_of_run leaves a 1) place);
  places = same;
  noted = has;
}

-- where the whole subtree is the right half of a larger one
pub record Doubles (leaves : List (List ℕ)) (power count : ℕ) : Type 0 where
  pub halves : ℕ
  pub size : length leaves ≡ 2 ^ suc power * suc halves
  pub place : 2 ^ power * count ≡ 2 ^ suc power * halves + 2 ^ power

pub doubles_of : (leaves : List (List ℕ)) (power count : ℕ) → length leaves ≡ 2 ^ power * suc count → 0 < length leaves → length leaves % (2 * 2 ^ power) ≡ 0 → Doubles leaves power count
doubles_of leaves power count size some even = by_times (length leaves / (2 * 2 ^ power)) (div-add-mod' (length leaves) (2 * 2 ^ power))
  where
    by_times : (n : ℕ) → n * (2 * 2 ^ power) + length leaves % (2 * 2 ^ power) ≡ length leaves → Doubles leaves power count
    by_times zero is = absurd (omega (arith, is, even, some))
    by_times (suc n) is =
        let twice : 2 ^ suc power * suc n ≡ suc n * (2 * 2 ^ power) = ap (λ p. p * suc n) (two-pow-succ power) ∙ (let e : (2 ^ power + 2 ^ power) * suc n ≡ suc n * (2 * 2 ^ power) = omega arith in e) in
        let less : 2 ^ suc power * n ≡ n * (2 * 2 ^ power) = ap (λ p. p * n) (two-pow-succ power) ∙ (let e : (2 ^ power + 2 ^ power) * n ≡ n * (2 * 2 ^ power) = omega arith in e) in
        record { halves = n; size = omega (arith, is, even, twice); place = omega (arith, is, even, size, less) }

-- 2 ^ (j + 1) times a number, by 2 ^ j
doubled : (j x : ℕ) → 2 ^ suc j * x ≡ 2 ^ j * x + 2 ^ j * x
doubled j x = ap (λ p. p * x) (two-pow-succ j) ∙ (let e : (2 ^ j + 2 ^ j) * x ≡ 2 ^ j * x + 2 ^ j * x = omega arith in e)

-- the left half, where it is a leaf
pub left_leaf : (leaves : List (List ℕ)) (half : ℕ) → half ≡ 1 → 0 < length leaves → length leaves % (2 * half) ≡ 0
    → get_or leaves (length leaves - half - 1) [] ≡ root_of_run leaves (length leaves - 2 * half) half
left_leaf leaves half one some even =
    let pairs : length leaves % 2 ≡ 0 = (let two : 2 * half ≡ 2 = omega arith in ap (λ n. length leaves % n) (sym two) ∙ even) in
    let place : length leaves - half - 1 ≡ length leaves - 2 * half = omega arith in
    ap (λ i. get_or leaves i []) place ∙ run_one (length leaves - 2 * half) leaves (omega arith) ∙ ap (λ n. root_of_run leaves (length leaves - 2 * half) n) (sym one)

-- and where it is a whole subtree that was noted
pub left_inner : (leaves inner : List (List ℕ)) (half : ℕ) (node : List ℕ) → Notes leaves inner half node → (half ≡ 1 → ⊥) → 0 < length leaves → length leaves % (2 * half) ≡ 0
    → get_or inner (length leaves - half - half / 2) [] ≡ root_of_run leaves (length leaves - 2 * half) half
left_inner leaves inner half node n more some even = by_power n.power n.count n.half_is n.size n.noted
  where
    by_power : (p count : ℕ) → half ≡ 2 ^ p → length leaves ≡ 2 ^ p * suc count → HasInnerUpTo p leaves inner → get_or inner (length leaves - half - half / 2) [] ≡ root_of_run leaves (length leaves - 2 * half) half
    by_power zero count is size noted = absurd (more is)
    by_power (suc i) count is size noted =
        let even_p : length leaves % (2 * 2 ^ suc i) ≡ 0 = ap (λ h. length leaves % (2 * h)) (sym is) ∙ even in
        let d : Doubles leaves (suc i) count = doubles_of leaves (suc i) count size some even_p in
        let h : ℕ = d.halves in
        let whole : length leaves ≡ 2 ^ i * (4 * h + 4) = d.size ∙ doubled (suc i) (suc h) ∙ (let e = doubled i (suc h) in omega (arith, e)) in
        let half_is : half ≡ 2 ^ i + 2 ^ i = is ∙ two-pow-succ i in
        let quarter : half / 2 ≡ 2 ^ i = omega (arith, half_is) in
        let place : length leaves - half - half / 2 ≡ 2 ^ i * (2 * (2 * h) + 1) = omega (arith, whole, half_is, quarter) in
        let start : 2 ^ suc i * (2 * h) ≡ length leaves - 2 * half = doubled i (2 * h) ∙ omega (arith, whole, half_is) in
        let room : 2 ^ suc i * suc (2 * h) ≤ length leaves = (let e = doubled i (suc (2 * h)) in omega (arith, e, whole)) in
        ap (λ m. get_or inner m []) place ∙ noted i (2 * h) room (λ e. omega arith) ∙ ap₂ (λ a b. root_of_run leaves a b) start (sym is)

pub notes_next : (leaves inner : List (List ℕ)) (half : ℕ) (node left above : List ℕ) → Notes leaves inner half node → 0 < length leaves → length leaves % (2 * half) ≡ 0
    → left ≡ root_of_run leaves (length leaves - 2 * half) half → above ≡ node_hash left node
    → Notes leaves (set inner (length leaves - half) above) (half * 2) above × (half * 2 ≤ length leaves)
notes_next leaves inner half node left above n some even left_is above_is =
    let p : ℕ = n.power in
    let even_p : length leaves % (2 * 2 ^ p) ≡ 0 = ap (λ h. length leaves % (2 * h)) (sym n.half_is) ∙ even in
    let d : Doubles leaves p n.count = doubles_of leaves p n.count n.size some even_p in
    let h : ℕ = d.halves in
    let size : length leaves ≡ 2 ^ p * suc h + 2 ^ p * suc h = d.size ∙ doubled p (suc h) in
    let start : length leaves - 2 * half ≡ 2 ^ suc p * h = omega (arith, size, n.half_is, doubled p h) in
    let middle : length leaves - half ≡ 2 ^ p * (2 * h + 1) = omega (arith, size, n.half_is) in
    let len : 2 ^ suc p ≡ 2 ^ p + 2 ^ p = two-pow-succ p in
    let point : 2 ^ p ≡ split_point (2 ^ suc p) = sym (split_point-between p (2 ^ suc p) (omega (arith, len, pow_pos p)) (omega arith)) in
    let within : 2 ^ suc p * h + 2 ^ suc p ≤ length leaves = omega (arith, size, len, doubled p h) in
    let first : left ≡ root_of_run leaves (2 ^ suc p * h) (2 ^ p) = left_is ∙ ap₂ (λ a b. root_of_run leaves a b) start n.half_is in
    let behind : 2 ^ suc p - 2 ^ p ≡ 2 ^ p = omega (arith, len) in
    let second : node ≡ root_of_run leaves (2 ^ suc p * h + 2 ^ p) (2 ^ suc p - 2 ^ p) = n.root ∙ ap₂ (λ a b. root_of_run leaves a b) d.place (sym behind) in
    let root : above ≡ root_of_run leaves (2 ^ suc p * h) (2 ^ suc p) =
    above_is ∙ node_of _ _ _ _ first second ∙ sym (run_node (2 ^ suc p * h) (2 ^ suc p) (2 ^ p) leaves (omega (arith, len, pow_pos p)) within point) in (
      record {
        power = suc p;
        count = h;
        half_is = omega (arith, n.half_is, len);
        size = d.size;
        root = root;
        places = length-set inner (length leaves - half) above ∙ n.places;
        noted = λ i q room last. elim (cases_eq (2 ^ i * (2 * q + 1)) (length leaves - half)) [
          | inl same ↦
              let parts = odd_parts i p q h (same ∙ middle) in
              ap (λ m. get_or (set inner (length leaves - half) above) m []) same
              ∙ get_or-set_same inner (length leaves - half) above [] (omega (arith, n.places, n.half_is, pow_pos p, some))
              ∙ root ∙ ap₂ (λ k r. root_of_run leaves (2 ^ suc k * r) (2 ^ suc k)) (sym parts.0) (sym parts.1)
          | inr other ↦
              get_or-set_other inner (length leaves - half) (2 ^ i * (2 * q + 1)) above [] other
              ∙ n.noted i q room (λ ends. elim (cases_lt i p) [
                | inl less ↦ omega arith
                | inr more ↦
                    let one : i ≡ p = omega (arith, last ends) in
                    let at : 2 ^ i * suc q + 2 ^ i * suc q ≡ length leaves = sym (doubled i (suc q)) ∙ ends in
                    let at_p : 2 ^ p * suc q + 2 ^ p * suc q ≡ length leaves = ap (λ k. 2 ^ k * suc q + 2 ^ k * suc q) (sym one) ∙ at in
                    let place : 2 ^ p * (2 * q + 1) ≡ length leaves - half = omega (arith, at_p, n.half_is) in
                    absurd (other (ap (λ k. 2 ^ k * (2 * q + 1)) one ∙ place))
              ])
        ];
      },
      omega (arith, size, n.half_is),
    )

-- where the whole subtree isn't the right half of a larger one, all are noted
pub notes_end : (leaves inner : List (List ℕ)) (half : ℕ) (node : List ℕ) → Notes leaves inner half node → (length leaves % (2 * half) ≡ 0 → ⊥) → HasInner leaves inner
notes_end leaves inner half node n odd i q room = n.noted i q room (λ ends. elim (cases_lt i n.power) [
  | inl less ↦ omega arith
  | inr more ↦
      let p : ℕ = n.power in
      let times : ℕ = 2 ^ (suc i - suc p) * suc q in
      let parts : 2 ^ suc i ≡ 2 ^ suc p * 2 ^ (suc i - suc p) = power_parts (suc p) (suc i) (omega arith) in
      let twice : 2 ^ suc p ≡ 2 * half = omega (arith, two-pow-succ p, n.half_is) in
      let all : length leaves ≡ times * (2 * half) + 0 =
      sym ends ∙ ap (λ r. r * suc q) (parts ∙ ap (λ r. r * 2 ^ (suc i - suc p)) twice) ∙ (let e : 2 * half * 2 ^ (suc i - suc p) * suc q ≡ times * (2 * half) + 0 = omega arith in e) in
      absurd (odd (ap (λ m. m % (2 * half)) all ∙ mod-mul-add times (2 * half) 0 (omega (arith, n.half_is, pow_pos p))))
])
