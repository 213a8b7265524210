-- Levels as a key file spells them.
use Rattle.std.proofs.Common.{◌≡◌, ℕ, suc, ◌<◌, ◌⊎◌, inl, inr, Bool, true, false, ◌&&◌, List, [], ◌∷◌, length, Option, None, Some, refl, ap, arith}
use Rattle.std.specs.Prelude.{◌==◌, nat_le, All, IsSome, IfSome, ◌↔◌, option_and_then, option_map, if◌then◌else◌}
use Rattle.std.specs.Bool.{Decides}
use Rattle.std.specs.List.{list_all}
use Rattle.std.proofs.lemmas.Bool.{and_from, and_parts, and_left, and_right, leb-true, le-leb, lt-leb, or_cases, or_left, or_right, eqb-true, eq-eqb}
use Rattle.std.proofs.lemmas.Bool.Decides.{Decides-by_and}
use Rattle.cbor_core.specs.declared.tree.Item.{Item}
use Rattle.lms_tree.specs.declared.types.Level.{Level}
use Rattle.lms_tree.specs.Types.{height}
use Rattle.hss_keys.specs.Levels.{CanSign, IsLevels}
use Rattle.key_store.specs.Records.{can_sign, are_levels, kept_levels, level_in, levels_of}

signs : (level : Level) → Decides (can_sign level) (CanSign level)
signs level = (
  λ e. elim (or_cases (height level == 5) (height level == 10) e) [
    | inl five ↦ inl (eqb-true (height level) 5 five)
    | inr ten ↦ inr (eqb-true (height level) 10 ten)
  ],
  λ can. elim can [
    | inl five ↦ or_left (height level == 5) (height level == 10) (eq-eqb (height level) 5 five)
    | inr ten ↦ or_right (height level == 5) (height level == 10) (eq-eqb (height level) 10 ten)
  ],
)

all_sign : (levels : List Level) → Decides (list_all can_sign levels) (All CanSign levels)
all_sign levels = Decides-by_and can_sign CanSign (list_all can_sign) signs refl (λ _ _. refl) levels

pub levels_true : (levels : List Level) → are_levels levels ≡ true → IsLevels levels
levels_true levels e =
    let first = and_parts (nat_le 1 (length levels)) (nat_le (length levels) 3 && list_all can_sign levels) e in
    let second = and_parts (nat_le (length levels) 3) (list_all can_sign levels) first.1 in
    record {
      some = leb-true 1 (length levels) first.0;
      most = leb-true (length levels) 3 second.0;
      each = (all_sign levels).0 second.1;
    }

pub levels_from : (levels : List Level) → IsLevels levels → are_levels levels ≡ true
levels_from levels are =
    and_from _ _ (le-leb 1 (length levels) are.some) (and_from _ _ (le-leb (length levels) 3 are.most) ((all_sign levels).1 are.each))

kept_by : (b : Bool) (r : Option (List Level)) (levels : List Level) → (IsSome r → b ≡ true) → (b ≡ true → IsSome r) → IfSome r (λ l. l ≡ levels) → r ≡ (if b then Some levels else None)
kept_by true (Some l) levels to from value = ap Some value
kept_by true None levels to from value = let e : false ≡ true = from refl in cc
kept_by false (Some l) levels to from value = let e : false ≡ true = to refl in cc
kept_by false None levels to from value = refl

pub kept_is : (r : Option (List Level)) (levels : List Level) → (IsSome r ↔ IsLevels levels) → IfSome r (λ l. l ≡ levels) → r ≡ kept_levels levels
kept_is r levels some value =
    kept_by (are_levels levels) r levels (λ is. levels_from levels (some.0 is)) (λ e. some.1 (levels_true levels e)) value

-- each level is one of the items
len_cons : (o : Option Level) (rest : Option (List Level)) (n : ℕ) → IfSome rest (λ l. length l ≡ n) → IfSome (option_and_then (λ level. option_map (λ levels. level ∷ levels) rest) o) (λ levels. length levels ≡ suc n)
len_cons None rest n was = tt
len_cons (Some level) None n was = tt
len_cons (Some level) (Some l) n was = omega arith

len_of : (items : List Item) → IfSome (levels_of items) (λ levels. length levels ≡ length items)
len_of [] = refl
len_of (item ∷ items) = len_cons (level_in item) (levels_of items) (length items) (len_of items)

none_kept : (o : Option (List Level)) (n : ℕ) → (n ≡ 0) ⊎ (3 < n) → IfSome o (λ l. length l ≡ n) → None ≡ option_and_then kept_levels o
none_kept None n wrong len = refl
none_kept (Some l) n (inl zero) len =
    let bad : are_levels l ≡ false = and_left (nat_le 1 (length l)) (nat_le (length l) 3 && list_all can_sign l) (lt-leb 1 (length l) (omega arith)) in
    rw bad refl
none_kept (Some l) n (inr many) len =
    let bad : are_levels l ≡ false = and_right (nat_le 1 (length l)) (nat_le (length l) 3 && list_all can_sign l) (and_left (nat_le (length l) 3) (list_all can_sign l) (lt-leb (length l) 3 (omega arith))) in
    rw bad refl

pub levels_none : (items : List Item) → (length items ≡ 0) ⊎ (3 < length items) → None ≡ option_and_then kept_levels (levels_of items)
levels_none items wrong = none_kept (levels_of items) (length items) wrong (len_of items)
