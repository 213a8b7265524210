-- How kept counts stand for a list of facts.
use Rattle.std.specs.Prelude.{◌≡◌, ℕ, zero, suc, ◌+◌, Bool, false, cond, ◌&&◌, nat_eq, String, List, [], ◌∷◌, Option, None, Some, count_by}
use Rattle.std.specs.Map.{lookup}
use Rattle.std.specs.Option.{unwrap_or, option_map, option_map_or}
use Rattle.std.specs.Str.{bytes_eq}
use Rattle.std.specs.String.{string_bytes}
use Rattle.policy_rules.specs.declared.facts.Facts.{Facts}
use Rattle.policy_eval.specs.Holds.{has_issuer, has_subject}

module _ {K : Type 0} where
  -- the place of the first key that passes
  abbrev pub place : (K → Bool) → List (K × ℕ) → Option ℕ
  place test [] = None
  place test (e ∷ counts) = cond (test e.0) (Some 0) (option_map suc (place test counts))

  -- the count at the first key that passes; no key stands for 0
  abbrev pub count : (K → Bool) → List (K × ℕ) → ℕ
  count test counts = unwrap_or (lookup test counts) 0

  -- one more at a place
  abbrev pub raised : List (K × ℕ) → ℕ → List (K × ℕ)
  raised [] i = []
  raised (e ∷ counts) zero = (e.0, e.1 + 1) ∷ counts
  raised (e ∷ counts) (suc i) = e ∷ raised counts i

abbrev pub is_place : ℕ → Option ℕ → Bool
is_place i at = option_map_or (nat_eq i) at false

abbrev pub is_text : {A : Type 0} → List ℕ → String A → Bool
is_text text key = bytes_eq text (string_bytes key)

abbrev pub is_pair : ℕ × ℕ → ℕ × ℕ → Bool
is_pair pair key = nat_eq pair.0 key.0 && nat_eq pair.1 key.1

-- new keys may have come, with the count 0; the others keep their places and counts
pub record Keeps {Q K : Type 0} (is : Q → K → Bool) (old new : List (K × ℕ)) : Type 0 where
  pub counts : (q : Q) → count (is q) new ≡ count (is q) old
  pub places : (q : Q) (i : ℕ) → place (is q) old ≡ Some i → place (is q) new ≡ Some i

module _ {A : Type 0} (by_subject by_issuer : List (String A × ℕ)) where
  -- these facts have the subject and the issuer with these places
  abbrev pub stands_at : ℕ × ℕ → Facts → Bool
  stands_at pair f = is_place pair.0 (place (is_text f.subject) by_subject) && is_place pair.1 (place (is_text f.issuer) by_issuer)

  module _ (by_pair : List ((ℕ × ℕ) × ℕ)) where
    -- each count is that of the entries with this subject, this issuer, or both
    pub record Counted (entries : List Facts) : Type 0 where
      pub subjects : (text : List ℕ) → count (is_text text) by_subject ≡ count_by (has_subject text) entries
      pub issuers : (text : List ℕ) → count (is_text text) by_issuer ≡ count_by (has_issuer text) entries
      pub pairs : (pair : ℕ × ℕ) → count (is_pair pair) by_pair ≡ count_by (stands_at pair) entries

    -- there is a count to raise for these facts' subject, issuer and both
    pub record HasKeys (f : Facts) : Type 0 where
      pub subject_at : ℕ
      pub issuer_at : ℕ
      pub pair_at : ℕ
      pub subject : place (is_text f.subject) by_subject ≡ Some subject_at
      pub issuer : place (is_text f.issuer) by_issuer ≡ Some issuer_at
      pub pair : place (is_pair (subject_at, issuer_at)) by_pair ≡ Some pair_at
