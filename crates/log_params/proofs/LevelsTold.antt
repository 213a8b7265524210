-- The levels that a signer has, as a test.
use Rattle.std.proofs.Common.{◌≡◌, ◌⊎◌, ◌↔◌, true, false, Bool, ◌||◌, ◌&&◌, ◌==◌, List, Option, None, Some, IsSome, IfSome, if◌then◌else◌, inl, inr, refl, ap, nat_le, length, get_or}
use Rattle.std.specs.List.{list_all}
use Rattle.std.proofs.lemmas.Bool.{and_parts, and_from, leb-true, le-leb, eqb-true, eq-eqb}
use Rattle.std.proofs.lemmas.List.Sums.{AllPass-from_list_all, list_all-from_AllPass}
use Rattle.lms_tree.specs.declared.types.Level.{Level}
use Rattle.lms_tree.specs.Types.{height}
use Rattle.hss_keys.specs.Levels.{CanSign, IsLevels}
use Rattle.log_replay.specs.WellMade.{is_signing_level}
use Rattle.log_params.specs.ParamFiles.{when_signing}

either : (a b : Bool) → (a || b) ≡ true → (a ≡ true) ⊎ (b ≡ true)
either true b e = inl refl
either false b e = inr e

one_of : (a b : Bool) → (a ≡ true) ⊎ (b ≡ true) → (a || b) ≡ true
one_of true b e = refl
one_of false b (inl e) = cc
one_of false b (inr e) = e

can_sign : (level : Level) → is_signing_level level ≡ true → CanSign level
can_sign level e = elim (either (height level == 5) (height level == 10) e) [ inl a ↦ inl (eqb-true (height level) 5 a) | inr b ↦ inr (eqb-true (height level) 10 b) ]

signs : (level : Level) → CanSign level → is_signing_level level ≡ true
signs level (inl five) = one_of (height level == 5) (height level == 10) (inl (eq-eqb (height level) 5 five))
signs level (inr ten) = one_of (height level == 5) (height level == 10) (inr (eq-eqb (height level) 10 ten))

abbrev passes : List Level → Bool
passes levels = nat_le 1 (length levels) && nat_le (length levels) 3 && list_all is_signing_level levels

are_levels : (levels : List Level) → passes levels ≡ true → IsLevels levels
are_levels levels e =
    let all = and_parts (nat_le 1 (length levels) && nat_le (length levels) 3) (list_all is_signing_level levels) e in
    let number = and_parts (nat_le 1 (length levels)) (nat_le (length levels) 3) all.0 in
    record {
      some = leb-true 1 (length levels) number.0;
      most = leb-true (length levels) 3 number.1;
      each = λ k d below. can_sign (get_or levels k d) (AllPass-from_list_all is_signing_level levels all.1 k d below);
    }

levels_pass : (levels : List Level) → IsLevels levels → passes levels ≡ true
levels_pass levels are =
    let number = and_from _ _ (le-leb 1 (length levels) are.some) (le-leb (length levels) 3 are.most) in
    and_from _ _ number (list_all-from_AllPass is_signing_level levels (λ k d below. signs (get_or levels k d) (are.each k d below)))

none_is : (T : Type 0) → IsSome {T = T} None → ⊥
none_is T is = cc

unread : (levels : List Level) (b : Bool) → (b ≡ true → ⊥) → None ≡ (if b then Some levels else None)
unread levels true differs = absurd (differs refl)
unread levels false differs = refl

read_so : (levels l : List Level) (b : Bool) → b ≡ true → l ≡ levels → Some l ≡ (if b then Some levels else None)
read_so levels l true e same = ap Some same
read_so levels l false e same = cc

-- what is read is what the test says
pub levels_told : (levels : List Level) (read : Option (List Level)) → IsSome read ↔ IsLevels levels → IfSome read (λ l. l ≡ levels) → read ≡ when_signing levels
levels_told levels (Some l) exact same = read_so levels l (passes levels) (levels_pass levels (exact.0 refl)) same
levels_told levels None exact same = unread levels (passes levels) (λ e. none_is (List Level) (exact.1 (are_levels levels e)))
