-- What a relying party accepts as growth.
use Rattle.std.specs.Prelude.{◌≡◌, ℕ, ◌==◌, Bool, false, not, ◌&&◌, ◌||◌, nat_lt, nat_le, List, [], ◌∷◌, Option, Some, None, is_none, option_map, option_and_then, unwrap_or}
use Rattle.std.specs.Str.{bytes_eq}
use Rattle.cbor_core.specs.Rows.{first_row}
use Rattle.merkle_tree.specs.Consistency.{roots_from}
use Rattle.receipts.specs.declared.receipt.Receipt.{Receipt}
use Rattle.receipts.specs.declared.receipt.Proof.{Proof}
use Rattle.receipts.specs.declared.receipt.Proof.TheVariants.{Inclusion, Consistency}
use Rattle.receipts.specs.Form.{receipt_of}
use Rattle.relying_party.specs.declared.trust.Trust.{Trust}
use Rattle.relying_party.specs.declared.answers.ConsistencyResult.{ConsistencyResult}
use Rattle.relying_party.specs.declared.answers.ConsistencyResult.TheVariants.{Consistent, Refused}
use Rattle.relying_party.specs.Accepts.{service_key, is_signed}

-- a consistency proof
pub record Grown : Type 0 where
  pub old : ℕ
  pub size : ℕ
  pub path : List (List ℕ)

abbrev pub grown_by : Proof → Option Grown
grown_by (Consistency old size path) = Some (record { old = old; size = size; path = path })
grown_by (Inclusion size index path at rule) = None

abbrev pub has_new_size : Option Receipt → Option Grown → Bool
has_new_size (Some r) (Some g) = g.size == r.size
has_new_size _ _ = false

-- the old size is the given one, which isn't 0, and not above the new size
abbrev pub has_old_size : ℕ → Option Grown → Bool
has_old_size old (Some g) = g.old == old && (nat_lt 0 g.old && nat_le g.old g.size)
has_old_size old None = false

-- the old and the new root to which the proof leads from the given root
abbrev pub roots_of : List ℕ → Grown → Option (List ℕ × List ℕ)
roots_of old_root g = roots_from g.old g.size old_root g.path

abbrev pub has_old_root : List ℕ → Option (List ℕ × List ℕ) → Bool
has_old_root old_root (Some roots) = bytes_eq roots.0 old_root
has_old_root old_root None = false

-- the rules on a consistency receipt, each beside its number
abbrev pub growth_rules : Trust → ℕ → List ℕ → Option Receipt → Option Grown → List (Bool × ℕ)
growth_rules trust old old_root r g =
    let key = option_and_then (service_key trust) r in
    let roots = option_and_then (roots_of old_root) g in
    (is_none r, 1)
    ∷ (is_none g, 2)
    ∷ (is_none key, 3)
    ∷ (not (has_new_size r g), 4)
    ∷ (not (has_old_size old g), 5)
    ∷ (is_none roots || not (has_old_root old_root roots), 6)
    ∷ (not (is_signed key r (option_map (λ roots. roots.1) roots)), 7)
    ∷ []

-- what a receipt shows that fails none of them
abbrev pub growth_shown : List ℕ → Option Grown → ConsistencyResult
growth_shown old_root (Some g) = Consistent g.size (unwrap_or (option_map (λ roots. roots.1) (roots_of old_root g)) [])
growth_shown old_root None = Refused 2

abbrev pub growth_by : Trust → ℕ → List ℕ → Option Receipt → Option Grown → ConsistencyResult
growth_by trust old old_root r g = unwrap_or (option_map Refused (first_row (growth_rules trust old old_root r g))) (growth_shown old_root g)

-- the answer to a consistency receipt after an old size and root: the first rule that fails, or what it shows
abbrev pub consistency_result : Trust → List ℕ → ℕ → List ℕ → ConsistencyResult
consistency_result trust bytes old old_root = let r = receipt_of bytes in growth_by trust old old_root r (option_and_then (λ r. grown_by r.proof) r)

-- exactly what a relying party answers
abbrev pub AcceptsConsistency : Trust → List ℕ → ℕ → List ℕ → ConsistencyResult → Type 0
AcceptsConsistency trust bytes old old_root result = result ≡ consistency_result trust bytes old old_root
