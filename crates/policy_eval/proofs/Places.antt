-- Lists of counts by key: places, and counts after a change.
use Rattle.std.proofs.Common.{◌≡◌, ℕ, zero, suc, ◌+◌, ◌<◌, Bool, true, false, cond, not, nat_lt, List, [], ◌∷◌, ◌++◌, length, get_or, Option, None, Some, refl, sym, ap, ◌∙◌, is_some, position, subst, arith, true≢false}
use Rattle.std.specs.Map.{keys_of, values_of, lookup}
use Rattle.std.specs.List.{position_or_len}
use Rattle.std.specs.Option.{unwrap_or, option_map, option_map_or}
use Rattle.std.proofs.lemmas.Bool.Decides.{nat_tests}
use Rattle.indexmap.specs.IndexMap.{IndexMap, get, insert_entry}
use Rattle.indexmap.specs.Layout.{set_value_at}
use Rattle.indexmap.proofs.CallerLemmas.{insert_entry-new}
use Rattle.policy_eval.specs.Counts.{place, count, raised, is_place, Keeps}

at_head : (b : Bool) (p n : ℕ) → cond b (Some 0) (option_map suc (cond (nat_lt p n) (Some p) None)) ≡ cond (nat_lt (cond (not b) (1 + p) 0) (suc n)) (Some (cond (not b) (1 + p) 0)) None
at_head true p n = grind (arith, nat_tests)
at_head false p n = grind (arith, nat_tests)

at_first : (b : Bool) (n : ℕ) (o at : Option ℕ) → unwrap_or (cond b (Some (n + 1)) o) 0 ≡ unwrap_or (cond b (Some n) o) 0 + cond (is_place 0 (cond b (Some 0) (option_map suc at))) 1 0
at_first true n o at = grind (arith, nat_tests)
at_first false n o None = grind (arith, nat_tests)
at_first false n o (Some k) = grind (arith, nat_tests)

at_later : (b : Bool) (i n : ℕ) (o p at : Option ℕ) → unwrap_or p 0 ≡ unwrap_or o 0 + cond (is_place i at) 1 0
    → unwrap_or (cond b (Some n) p) 0 ≡ unwrap_or (cond b (Some n) o) 0 + cond (is_place (suc i) (cond b (Some 0) (option_map suc at))) 1 0
at_later true i n o p at h = grind (arith, nat_tests)
at_later false i n o p None h = h
at_later false i n o p (Some k) h = grind (arith, nat_tests)

no_count : (b : Bool) → unwrap_or {T = ℕ} (cond b (Some 0) None) 0 ≡ 0
no_count true = refl
no_count false = refl

past_head : (b : Bool) (n : ℕ) (o p : Option ℕ) → unwrap_or p 0 ≡ unwrap_or o 0 → unwrap_or (cond b (Some n) p) 0 ≡ unwrap_or (cond b (Some n) o) 0
past_head true n o p h = refl
past_head false n o p h = h

onto : (b c : Bool) (at : Option ℕ) (n : ℕ)
    → cond b (Some 0) (option_map suc (option_map_or Some at (cond c (Some n) None))) ≡ option_map_or Some (cond b (Some 0) (option_map suc at)) (cond c (Some (suc n)) None)
onto true c at n = refl
onto false c (Some k) n = refl
onto false true None n = refl
onto false false None n = refl

none_under : (b : Bool) (n : ℕ) (at o : Option ℕ) → cond b (Some 0) (option_map suc at) ≡ None → (at ≡ None → o ≡ None) → cond b (Some n) o ≡ None
none_under true n at o h rest = absurd (true≢false (ap is_some h))
none_under false n None o h rest = rest refl
none_under false n (Some k) o h rest = absurd (true≢false (ap is_some h))

module _ {K : Type 0} (test : K → Bool) where
  -- a place is the index that a map gives
  pub place-position : (es : List (K × ℕ)) → place test es ≡ position test (keys_of es)
  place-position [] = refl
  place-position (e ∷ es) =
      ap (λ at. cond (test e.0) (Some 0) (option_map suc at)) (place-position es) ∙ at_head (test e.0) (position_or_len test (keys_of es)) (length (keys_of es))

  -- no place, no count
  lookup-none : (es : List (K × ℕ)) → place test es ≡ None → lookup test es ≡ None
  lookup-none [] h = refl
  lookup-none (e ∷ es) h = none_under (test e.0) e.1 (place test es) (lookup test es) h (lookup-none es)

  pub count-none : (es : List (K × ℕ)) → place test es ≡ None → count test es ≡ 0
  count-none es h = ap (λ o. unwrap_or o 0) (lookup-none es h)

  -- places stay where a count is raised
  pub place-raised : (es : List (K × ℕ)) (i : ℕ) → place test (raised es i) ≡ place test es
  place-raised [] i = refl
  place-raised (e ∷ es) zero = refl
  place-raised (e ∷ es) (suc i) = ap (λ at. cond (test e.0) (Some 0) (option_map suc at)) (place-raised es i)

  -- the count of the key with this place is one more
  pub count-raised : (es : List (K × ℕ)) (i : ℕ) → count test (raised es i) ≡ count test es + cond (is_place i (place test es)) 1 0
  count-raised [] i = refl
  count-raised (e ∷ es) zero = at_first (test e.0) e.1 (lookup test es) (place test es)
  count-raised (e ∷ es) (suc i) = at_later (test e.0) i e.1 (lookup test es) (lookup test (raised es i)) (place test es) (count-raised es i)

  -- a new key has the count 0
  pub count-push : (es : List (K × ℕ)) (k : K) → count test (es ++ (k, 0) ∷ []) ≡ count test es
  count-push [] k = no_count (test k)
  count-push (e ∷ es) k = past_head (test e.0) e.1 (lookup test es) (lookup test (es ++ (k, 0) ∷ [])) (count-push es k)

  -- a new key has the last place
  pub place-push : (es : List (K × ℕ)) (k : K) → place test (es ++ (k, 0) ∷ []) ≡ option_map_or Some (place test es) (cond (test k) (Some (length es)) None)
  place-push [] k = refl
  place-push (e ∷ es) k = ap (λ at. cond (test e.0) (Some 0) (option_map suc at)) (place-push es k) ∙ onto (test e.0) (test k) (place test es) (length es)

-- a write of one more at an index
pub raised-is : {K : Type 0} (es : List (K × ℕ)) (i v d : ℕ) → i < length es → get_or (values_of es) i d ≡ v → set_value_at es i (v + 1) ≡ raised es i
raised-is [] i v d h e = refl
raised-is (x ∷ es) zero v d h e = ap (λ n. (x.0, n + 1) ∷ es) (sym e)
raised-is (x ∷ es) (suc i) v d h e = ap (λ r. x ∷ r) (raised-is es i v d (omega arith) e)

module _ {Q K : Type 0} (is : Q → K → Bool) where
  pub keeps-same : (es : List (K × ℕ)) → Keeps is es es
  keeps-same es = record { counts = λ q. refl; places = λ q i h. h }

  keeps-push : (es : List (K × ℕ)) (k : K) → Keeps is es (es ++ (k, 0) ∷ [])
  keeps-push es k = record {
    counts = λ q. count-push (is q) es k;
    places = λ q i h. place-push (is q) es k ∙ ap (λ at. option_map_or Some at (cond (is q k) (Some (length es)) None)) h;
  }

  place-new : (es : List (K × ℕ)) (k : K) (q : Q) → place (is q) es ≡ None → is q k ≡ true → place (is q) (es ++ (k, 0) ∷ []) ≡ Some (length es)
  place-new es k q none passes = place-push (is q) es k ∙ (λ j. option_map_or Some (none j) (cond (passes j) (Some (length es)) None))

  -- what `insert` leaves of a map that had no key for a query
  pub new_key : {S : Type 0} (eq : K → K → Bool) (m n : IndexMap K ℕ S) (k : K) (q : Q) → n.entries ≡ insert_entry eq m.entries k 0 → ((x : K) → eq k x ≡ is q x)
      → is q k ≡ true → place (is q) m.entries ≡ None → Keeps is m.entries n.entries × (place (is q) n.entries ≡ Some (length m.entries))
  new_key eq m n k q made same passes none =
      let absent : get eq m k ≡ None = (λ j. lookup (λ x. same x j) m.entries) ∙ lookup-none (is q) m.entries none in
      let new : n.entries ≡ m.entries ++ (k, 0) ∷ [] = made ∙ insert_entry-new eq m k 0 absent in
      (subst (Keeps is m.entries) (sym new) (keeps-push m.entries k), ap (place (is q)) new ∙ place-new m.entries k q none passes)

same_first : (i : ℕ) (b c : Bool) (at : Option ℕ) → b ≡ c → Some 0 ≡ Some i → is_place i (cond b (Some 0) (option_map suc at)) ≡ c
same_first i true c at e h = grind (arith, nat_tests)
same_first i false c None e h = e
same_first i false c (Some k) e h = grind (arith, nat_tests)

same_later : (i j : ℕ) (b c : Bool) (at : Option ℕ) → (b ≡ true → false ≡ c) → is_place j at ≡ c → Some (suc j) ≡ Some i → is_place i (cond b (Some 0) (option_map suc at)) ≡ c
same_later i j true c at e r h = grind (arith, nat_tests, e refl)
same_later i j false c None e r h = r
same_later i j false c (Some k) e r h = grind (arith, nat_tests)

-- a key that two queries find is one key, and keys of two places differ
module _ {Q K : Type 0} (is : Q → K → Bool) (same : Q → Q → Bool)
    (left : (q r : Q) (k : K) → is q k ≡ true → is r k ≡ same q r) (right : (q r : Q) (k : K) → is r k ≡ true → is q k ≡ same q r) (q r : Q) where
  found_at : (e : K × ℕ) (es : List (K × ℕ)) (i : ℕ) (b : Bool) → is q e.0 ≡ b → (at : Option ℕ) → place (is q) es ≡ at → place (is q) (e ∷ es) ≡ Some i
      → ((j : ℕ) → place (is q) es ≡ Some j → is_place j (place (is r) es) ≡ same q r)
      → is_place i (cond (is r e.0) (Some 0) (option_map suc (place (is r) es))) ≡ same q r
  found_at e es i true hit at p h rest =
      same_first i (is r e.0) (same q r) (place (is r) es) (left q r e.0 hit) (sym (ap (λ b. cond b (Some 0) (option_map suc (place (is q) es))) hit) ∙ h)
  found_at e es i false miss None p h rest = absurd (true≢false (ap is_some (sym h ∙ (λ j. cond (miss j) (Some 0) (option_map suc (p j))))))
  found_at e es i false miss (Some j) p h rest =
      same_later i j (is r e.0) (same q r) (place (is r) es) (λ hit. sym miss ∙ right q r e.0 hit) (rest j p) (sym (λ k. cond (miss k) (Some 0) (option_map suc (p k))) ∙ h)

  pub one_place : (es : List (K × ℕ)) (i : ℕ) → place (is q) es ≡ Some i → is_place i (place (is r) es) ≡ same q r
  one_place [] i h = absurd (true≢false (sym (ap is_some h)))
  one_place (e ∷ es) i h = found_at e es i (is q e.0) refl (place (is q) es) refl h (one_place es)
