-- What the tables of a policy say.
use Rattle.std.specs.Prelude.{◌≡◌, ◌≤◌, Bool, true, false, List, [], map, Option, Some, None, Ok}
use Rattle.std.specs.List.{list_all}
use Rattle.policy_rules.specs.declared.documents.Holder.{Holder}
use Rattle.policy_rules.specs.declared.documents.Rule.{Rule}
use Rattle.policy_rules.specs.declared.documents.Policy.{Policy}
use Rattle.policy_rules.specs.Documents.{most_deep}
use Rattle.policy_rules.specs.Spelling.{holder_item, rule_item, policy_item}
use Rattle.toml.specs.Data.{Items, Members, items_depth, members_depth}
use Rattle.scitt_forms.specs.declared.refusal.Place.{Place}
use Rattle.scitt_forms.specs.declared.refusal.Word.{Word}
use Rattle.scitt_forms.specs.Fields.{each_onto}
use Rattle.scitt_forms.specs.Holders.{holder_said, holder_at}
use Rattle.scitt_forms.specs.Policies.{rule_said, rule_at, policy_item_said}
use Rattle.shown_forms.specs.Conditions.{cond_fits}

-- the table says the holder, wherever it stands
pub record HolderTable (h : Holder) (table : Members) : Type 0 where
  pub says : (place : Place) → holder_said place table ≡ Ok (holder_item h)
  pub shallow : members_depth table ≤ 0

pub record HolderTables (holders : List Holder) (ds : Items) : Type 0 where
  pub say : (list : Word) → each_onto (holder_at list) [] ds ≡ Ok (map holder_item holders)
  pub shallow : items_depth ds ≤ 1

-- whether a rule's condition has a form
abbrev pub rule_fits : Rule → Bool
rule_fits r = cond_fits r.cond most_deep

pub record RuleTable (r : Rule) (table : Members) : Type 0 where
  pub fits : rule_fits r ≡ true
  pub says : (place : Place) → rule_said place table ≡ Ok (rule_item r)
  pub shallow : members_depth table ≤ 16

abbrev pub SaysRule : Rule → Option Members → Type 0
SaysRule r (Some table) = RuleTable r table
SaysRule r None = rule_fits r ≡ false

pub record RuleTables (rules : List Rule) (ds : Items) : Type 0 where
  pub fit : list_all rule_fits rules ≡ true
  pub say : each_onto rule_at [] ds ≡ Ok (map rule_item rules)
  pub shallow : items_depth ds ≤ 17

abbrev pub SaysRules : List Rule → Option Items → Type 0
SaysRules rules (Some ds) = RuleTables rules ds
SaysRules rules None = list_all rule_fits rules ≡ false

-- whether a policy has a form: its conditions are at most 8 deep, and TOML has their numbers
abbrev pub policy_fits : Policy → Bool
policy_fits p = list_all rule_fits p.rules

pub record PolicyTable (p : Policy) (table : Members) : Type 0 where
  pub fits : policy_fits p ≡ true
  pub says : policy_item_said table ≡ Ok (policy_item p)
  pub shallow : members_depth table ≤ 18

abbrev pub SaysPolicy : Policy → Option Members → Type 0
SaysPolicy p (Some table) = PolicyTable p table
SaysPolicy p None = policy_fits p ≡ false
