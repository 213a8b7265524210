-- Tables of tests in order, and the rows for a head.
use Rattle.std.proofs.Common.{◌≡◌, ℕ, ◌<◌, ◌≤◌, Bool, true, false, cond, not, ◌&&◌, ◌||◌, ◌==◌, List, [], ◌∷◌, length, take, Option, Some, None, ◌⊎◌, refl, inl, inr, arith, nat_lt, eq-eqb, ne_eqb, lt-ltb, le-ltb, ltb-false, ltb-true}
use Rattle.std.proofs.lemmas.Bool.{cases_eq, cases_Bool, not-false, eqb-false, eqb-true, or_left, or_right, or_from, and_left, and_right}
use Rattle.std.specs.Str.{is_utf8}
use Rattle.cbor_core.specs.declared.words.Grammar.{Grammar}
use Rattle.cbor_core.specs.declared.heads.Head.{Head}
use Rattle.cbor_core.specs.Limits.{longest_string, most_parts}
use Rattle.cbor_core.specs.Rows.{first_row}
use Rattle.cbor_core.specs.Head.{limit, least}
use Rattle.cbor_core.specs.Spells.{is_strict}
use Rattle.cbor_core.specs.Faults.{is_string, is_list, is_float, rows, row_of}
use Rattle.cbor_core.specs.Reading.{IsOpen}

step : {A : Type 0} (b : Bool) (x : A) (o : Option A) → cond b (Some x) o ≡ None → (b ≡ false) × (o ≡ None)
step true x o e = absurd cc
step false x o e = (refl, e)

-- no test holds
abbrev pub NoRow : {A : Type 0} → List (Bool × A) → Type 0
NoRow [] = Unit {0}
NoRow (row ∷ rows) = (row.0 ≡ false) × NoRow rows

pub first_row_none : {A : Type 0} (rows : List (Bool × A)) → first_row rows ≡ None → NoRow rows
first_row_none [] e = tt
first_row_none (row ∷ rows) e = let s = step row.0 row.1 (first_row rows) e in (s.0, first_row_none rows s.1)

pub no_row : {A : Type 0} (rows : List (Bool × A)) → NoRow rows → first_row rows ≡ None
no_row [] n = refl
no_row (row ∷ rows) n = rw n.0 (no_row rows n.1)

and2 : (x y : Bool) → (x && y) ≡ false → x ≡ true → y ≡ false
and2 true y e h = e
and2 false y e h = absurd cc

and3 : (x y z : Bool) → (x && (y && z)) ≡ false → x ≡ true → y ≡ true → z ≡ false
and3 x y z e h k = and2 y z (and2 x (y && z) e h) k

pub is_string_true : (m : ℕ) → 2 ≤ m → m < 4 → is_string m ≡ true
is_string_true m a b = elim (cases_eq m 2) [ inl e ↦ or_left (m == 2) (m == 3) (eq-eqb m 2 e) | inr ne ↦ or_right (m == 2) (m == 3) (eq-eqb m 3 (omega arith)) ]

pub is_list_true : (m : ℕ) → 4 ≤ m → m < 6 → is_list m ≡ true
is_list_true m a b = elim (cases_eq m 4) [ inl e ↦ or_left (m == 4) (m == 5) (eq-eqb m 4 e) | inr ne ↦ or_right (m == 4) (m == 5) (eq-eqb m 5 (omega arith)) ]

pub is_container_true : (m : ℕ) → 4 ≤ m → m < 7 → (is_list m || m == 6) ≡ true
is_container_true m a b = elim (cases_eq m 6) [ inl e ↦ or_right (is_list m) (m == 6) (eq-eqb m 6 e) | inr ne ↦ or_left (is_list m) (m == 6) (is_list_true m a (omega arith)) ]

pub is_string_cases : (m : ℕ) → (is_string m ≡ false) ⊎ ((2 ≤ m) × (m < 4))
is_string_cases m = elim (cases_eq m 2) [ inl e ↦ inr (omega arith, omega arith) | inr ne ↦ elim (cases_eq m 3) [ inl e ↦ inr (omega arith, omega arith) | inr nf ↦ inl (or_from (m == 2) (m == 3) (ne_eqb m 2 ne) (ne_eqb m 3 nf)) ] ]

pub is_list_cases : (m : ℕ) → (is_list m ≡ false) ⊎ ((4 ≤ m) × (m < 6))
is_list_cases m = elim (cases_eq m 4) [ inl e ↦ inr (omega arith, omega arith) | inr ne ↦ elim (cases_eq m 5) [ inl e ↦ inr (omega arith, omega arith) | inr nf ↦ inl (or_from (m == 4) (m == 5) (ne_eqb m 4 ne) (ne_eqb m 5 nf)) ] ]

pub is_container_cases : (m : ℕ) → ((is_list m || m == 6) ≡ false) ⊎ ((4 ≤ m) × (m < 7))
is_container_cases m =
    elim (is_list_cases m) [
      | inl no_list ↦ elim (cases_eq m 6) [ inl e ↦ inr (omega arith, omega arith) | inr ne ↦ inl (or_from (is_list m) (m == 6) no_list (ne_eqb m 6 ne)) ]
      | inr h ↦ inr (h.0, omega (arith, h.1))
    ]

-- no row applies to a head that was read
pub IsOpen-from : (g : Grammar) (room : ℕ) (h : Head) (rest : List ℕ) → h.major < 8 → h.argument < limit h.size → row_of g room h rest ≡ None → IsOpen g room h rest
IsOpen-from g room h rest m a e =
    let n = first_row_none (rows g room h rest) e in
    record {
      major = m;
      argument = a;
      shortest = λ s lt. ltb-false h.argument (least h.size) (and3 (is_strict g) (nat_lt h.major 7) (nat_lt h.argument (least h.size)) n.0 s (lt-ltb h.major 7 lt));
      no_float = λ s is. and3 (is_strict g) (h.major == 7) (is_float h.size) n.1.0 s (eq-eqb h.major 7 is);
      string_limit = λ x y. ltb-false longest_string h.argument (and2 (is_string h.major) (nat_lt longest_string h.argument) n.1.1.0 (is_string_true h.major x y));
      list_limit = λ x y. ltb-false most_parts h.argument (and2 (is_list h.major) (nat_lt most_parts h.argument) n.1.1.1.0 (is_list_true h.major x y));
      room_left = λ x y. let ne : room ≡ 0 → ⊥ = eqb-false room 0 (and2 (is_list h.major || h.major == 6) (room == 0) n.1.1.1.1.0 (is_container_true h.major x y)) in omega arith;
      content = λ x y. ltb-false (length rest) h.argument (and2 (is_string h.major) (nat_lt (length rest) h.argument) n.1.1.1.1.1.0 (is_string_true h.major x y));
      text = λ is. not-false (is_utf8 (take h.argument rest)) (and2 (h.major == 3) (not (is_utf8 (take h.argument rest))) n.1.1.1.1.1.1.0 (eq-eqb h.major 3 is));
    }

strict_or : (g : Grammar) (x y : Bool) → (is_strict g ≡ true → x ≡ true → y ≡ false) → (is_strict g && (x && y)) ≡ false
strict_or g x y h =
    elim (cases_Bool (is_strict g)) [
      | inr off ↦ and_left (is_strict g) (x && y) off
      | inl on ↦ elim (cases_Bool x) [
        | inr off ↦ and_right (is_strict g) (x && y) (and_left x y off)
        | inl is ↦ and_right (is_strict g) (x && y) (and_right x y (h on is))
      ]
    ]

-- an open head has no row
pub row-none : (g : Grammar) (room : ℕ) (h : Head) (rest : List ℕ) → IsOpen g room h rest → row_of g room h rest ≡ None
row-none g room h rest o =
    no_row (rows g room h rest) (
      strict_or g (nat_lt h.major 7) (nat_lt h.argument (least h.size)) (λ s lt. le-ltb h.argument (least h.size) (o.shortest s (ltb-true h.major 7 lt))),
      (
        strict_or g (h.major == 7) (is_float h.size) (λ s is. o.no_float s (eqb-true h.major 7 is)),
        (
          elim (is_string_cases h.major) [ inl off ↦ and_left (is_string h.major) (nat_lt longest_string h.argument) off | inr p ↦ and_right (is_string h.major) (nat_lt longest_string h.argument) (le-ltb longest_string h.argument (o.string_limit p.0 p.1)) ],
          (
            elim (is_list_cases h.major) [ inl off ↦ and_left (is_list h.major) (nat_lt most_parts h.argument) off | inr p ↦ and_right (is_list h.major) (nat_lt most_parts h.argument) (le-ltb most_parts h.argument (o.list_limit p.0 p.1)) ],
            (
              elim (is_container_cases h.major) [ inl off ↦ and_left (is_list h.major || h.major == 6) (room == 0) off | inr p ↦ and_right (is_list h.major || h.major == 6) (room == 0) (let pos : 0 < room = o.room_left p.0 p.1 in ne_eqb room 0 (λ e. absurd (omega arith))) ],
              (
                elim (is_string_cases h.major) [ inl off ↦ and_left (is_string h.major) (nat_lt (length rest) h.argument) off | inr p ↦ and_right (is_string h.major) (nat_lt (length rest) h.argument) (le-ltb (length rest) h.argument (o.content p.0 p.1)) ],
                (
                  elim (cases_eq h.major 3) [ inl is ↦ and_right (h.major == 3) (not (is_utf8 (take h.argument rest))) (rw (o.text is)) | inr ne ↦ and_left (h.major == 3) (not (is_utf8 (take h.argument rest))) (ne_eqb h.major 3 ne) ],
                  tt,
                ),
              ),
            ),
          ),
        ),
      ),
    )
