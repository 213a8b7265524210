-- What the value of a condition says.
use Rattle.std.specs.Prelude.{◌≡◌, ◌≤◌, ◌*◌, ℕ, zero, suc, Bool, true, false, nat_le, List, [], map, Option, Some, None, Ok}
use Rattle.std.specs.List.{list_all}
use Rattle.policy_rules.specs.declared.conditions.Cond.{Cond}
use Rattle.policy_rules.specs.declared.conditions.CondNode.{CondNode-F}
use Rattle.policy_rules.specs.declared.conditions.CondNode.TheFolds.{fold-Cond}
use Rattle.policy_rules.specs.Spelling.{cond_item}
use Rattle.toml.specs.Data.{Data, Items, depth, items_depth}
use Rattle.scitt_forms.specs.declared.refusal.Place.{Place}
use Rattle.scitt_forms.specs.Fields.{each_onto}
use Rattle.scitt_forms.specs.Conditions.{cond_said}
use Rattle.shown_forms.specs.Tables.{most_number}

-- whether each part has a form one level less deep
abbrev pub parts_fit : List (ℕ → Bool) → ℕ → Bool
parts_fit parts zero = false
parts_fit parts (suc deep) = list_all (λ part. part deep) parts

abbrev pub part_fits : (ℕ → Bool) → ℕ → Bool
part_fits part zero = false
part_fits part (suc deep) = part deep

-- whether a number has one, and whether a condition without parts has one
abbrev pub number_fits : ℕ → ℕ → Bool
number_fits n zero = false
number_fits n (suc deep) = nat_le n most_number

abbrev pub is_deep : ℕ → Bool
is_deep zero = false
is_deep (suc deep) = true

-- one condition, with the answer of each part in its place
abbrev pub fits_step : CondNode-F (ℕ → Bool) (ℕ → Bool) → ℕ → Bool
fits_step (CondNode-F.All parts) = parts_fit parts
fits_step (CondNode-F.Any parts) = parts_fit parts
fits_step (CondNode-F.Not part) = part_fits part
fits_step (CondNode-F.PayloadAtMost n) = number_fits n
fits_step (CondNode-F.CountBelow n) = number_fits n
fits_step _ = is_deep

-- whether a condition has a form: it is at most so many deep, and TOML has its numbers
abbrev pub cond_fits : Cond → ℕ → Bool
cond_fits = fold-Cond (ℕ → Bool) (ℕ → Bool) fits_step (λ c. c.node)

-- the value says the condition, wherever it stands, and isn't deeper than TOML's reader goes
pub record CondValue (deep : ℕ) (c : Cond) (d : Data) : Type 0 where
  pub fits : cond_fits c deep ≡ true
  pub says : (place : Place) → cond_said place deep d ≡ Ok (cond_item c)
  pub shallow : depth d ≤ 2 * deep

-- the value of a condition, or that it has none
abbrev pub SaysCond : ℕ → Cond → Option Data → Type 0
SaysCond deep c (Some d) = CondValue deep c d
SaysCond deep c None = cond_fits c deep ≡ false

pub record PartValues (deep : ℕ) (parts : List Cond) (ds : Items) : Type 0 where
  pub fit : list_all (λ c. cond_fits c deep) parts ≡ true
  pub say : (place : Place) → each_onto (λ i. cond_said place deep) [] ds ≡ Ok (map cond_item parts)
  pub shallow : items_depth ds ≤ 2 * deep

abbrev pub SaysParts : ℕ → List Cond → Option Items → Type 0
SaysParts deep parts (Some ds) = PartValues deep parts ds
SaysParts deep parts None = list_all (λ c. cond_fits c deep) parts ≡ false
