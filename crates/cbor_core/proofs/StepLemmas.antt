-- Steps that may fail, choices, and lists of bytes.
use Rattle.std.proofs.Common.{◌≡◌, ℕ, ◌+◌, ◌-◌, ◌<◌, ◌⊎◌, Bool, true, false, cond, nat_lt, le-ltb, List, ◌++◌, length, take, drop, get_or, Option, Some, None, Result, Ok, Err, refl, sym, ap, subst, ◌∙◌, inl, inr, arith}
use Rattle.std.proofs.lemmas.Bool.{cases_lt}
use Rattle.std.proofs.lemmas.List.{take_at, drop_at, length-append, get_or_past, get_or_append_left, get_or-append-add}
use Rattle.cbor_core.specs.declared.words.Why.{Why}
use Rattle.cbor_core.specs.declared.heads.Stop.{Stop}
use Rattle.cbor_core.specs.Bytes.{IsBytes}
use Rattle.cbor_core.specs.Reading.{and_then, judged, front_of}

-- a front of bytes: within it each place has the byte of the whole, and past it there is 0
pub IsBytes-front : (bytes text rest : List ℕ) → IsBytes bytes → bytes ≡ text ++ rest → IsBytes text
IsBytes-front bytes text rest h e =
    λ i. elim (cases_lt i (length text)) [
      | inl within ↦ subst (λ (n : ℕ). n < 256) (ap (λ (whole : List ℕ). get_or whole i 0) e ∙ get_or_append_left text rest 0 i within) (h i)
      | inr past ↦ rw (get_or_past text i 0 past) (omega arith)
    ]

-- what follows a front of bytes
pub IsBytes-after : (bytes text rest : List ℕ) → IsBytes bytes → bytes ≡ text ++ rest → IsBytes rest
IsBytes-after bytes text rest h e i = subst (λ (n : ℕ). n < 256) (ap (λ (b : List ℕ). get_or b (length text + i) 0) e ∙ get_or-append-add text rest i 0) (h (length text + i))

-- two steps that both went well: what the first one gave, and the second one from there
pub steps_ok : {A B E : Type 0} (first : Result A E) (next : A → Result B E) (last : B) → and_then first next ≡ Ok last → (mid : A) × (first ≡ Ok mid) × (next mid ≡ Ok last)
steps_ok (Err stop) next last e = absurd cc
steps_ok (Ok mid) next last e = (mid, refl, e)

-- a step that failed, or the one after it did
pub steps_err : {A B E : Type 0} (first : Result A E) (next : A → Result B E) (stop : E) → and_then first next ≡ Err stop → (first ≡ Err stop) ⊎ ((mid : A) × (first ≡ Ok mid) × (next mid ≡ Err stop))
steps_err (Err own) next stop e = inl cc
steps_err (Ok mid) next stop e = inr (mid, refl, e)

pub ok_is : {A E : Type 0} (x y : A) → ◌≡◌ {A = Result A E} (Ok x) (Ok y) → x ≡ y
ok_is x y e = cc

pub err_is : {A E : Type 0} (x y : E) → ◌≡◌ {A = Result A E} (Err x) (Err y) → x ≡ y
err_is x y e = cc

pub ok_err : {A E : Type 0} (x : A) (y : E) → ◌≡◌ {A = Result A E} (Ok x) (Err y) → ⊥
ok_err x y e = cc

pub err_ok : {A E : Type 0} (x : E) (y : A) → ◌≡◌ {A = Result A E} (Err x) (Ok y) → ⊥
err_ok x y e = cc

-- the bytes in front of others: there are enough of them, and they are taken and dropped
pub record IsCut (text rest : List ℕ) (n : ℕ) : Type 0 where
  pub enough : nat_lt (length (text ++ rest)) n ≡ false
  pub taken : take n (text ++ rest) ≡ text
  pub dropped : drop n (text ++ rest) ≡ rest

pub is_cut : (text rest : List ℕ) (n : ℕ) → length text ≡ n → IsCut text rest n
is_cut text rest n len = record {
  enough = le-ltb _ _ (omega (arith, length-append text rest));
  taken = take_at text rest n len;
  dropped = drop_at text rest n len;
}

-- which way a choice went
pub chosen : {X : Type 0} (b : Bool) (x y z : X) → cond b x y ≡ z → ((b ≡ true) × (x ≡ z)) ⊎ ((b ≡ false) × (y ≡ z))
chosen true x y z e = inl (refl, e)
chosen false x y z e = inr (refl, e)

pub front-is : (text rest : List ℕ) → front_of (text ++ rest) rest ≡ text
front-is text rest = let n : length (text ++ rest) - length rest ≡ length text = omega (arith, length-append text rest) in rw n (take_at text rest (length text) refl)

-- a row that was judged, and then a step
pub judged_ok : {A B : Type 0} (left : ℕ) (o : Option Why) (x : A) (f : A → Result B Stop) (y : B) → and_then (judged left o x) f ≡ Ok y → (o ≡ None) × (f x ≡ Ok y)
judged_ok left None x f y e = (refl, e)
judged_ok left (Some why) x f y e = absurd (err_ok _ _ e)

pub judged_err : {A B : Type 0} (left : ℕ) (o : Option Why) (x : A) (f : A → Result B Stop) (stop : Stop) → and_then (judged left o x) f ≡ Err stop
    → ((o ≡ Some stop.why) × (stop.left ≡ left)) ⊎ ((o ≡ None) × (f x ≡ Err stop))
judged_err left None x f stop e = inr (refl, e)
judged_err left (Some why) x f stop e = let p = err_is (record { left = left; why = why }) stop e in inl (ap (λ (s : Stop). Some s.why) p, sym (ap (λ (s : Stop). s.left) p))
