-- Policies: the item of a document that a form says, and the document that it is.
use Rattle.std.specs.Prelude.{◌==◌, ℕ, List, [], ◌∷◌, Bool, true, false, Option, Some, None, Result, Ok, Err, if◌then◌else◌}
use Rattle.cbor_core.specs.declared.tree.Item.{Item}
use Rattle.policy_rules.specs.declared.documents.Policy.{Policy}
use Rattle.policy_rules.specs.Documents.{policy_in, most_deep}
use Rattle.policy_rules.specs.Spelling.{uint_item, array_item, effect_number}
use Rattle.toml.specs.Data.{Data, Members}
use Rattle.scitt_forms.specs.declared.refusal.Place.{Place}
use Rattle.scitt_forms.specs.declared.refusal.Word.{Word}
use Rattle.scitt_forms.specs.declared.refusal.Word.TheVariants as w
use Rattle.scitt_forms.specs.declared.refusal.Why.TheVariants.{Missing, Both, Limits}
use Rattle.scitt_forms.specs.Refusals.{Said, refusal, and_then}
use Rattle.scitt_forms.specs.Fields.{form, under, as_members, number_said, each_onto, tables_under, placed, when_known}
use Rattle.scitt_forms.specs.Holders.{holder_at}
use Rattle.scitt_forms.specs.Conditions.{cond_said}

abbrev pub with_effect : Place → Bool → Data → Said (Bool × Item)
with_effect place admits d = and_then (cond_said place most_deep d) (λ cond. Ok (admits, cond))

-- what a rule does where its condition holds: it has one of `admit` and `deny`
abbrev pub effect_from : Place → Option Data → Option Data → Said (Bool × Item)
effect_from place (Some d) None = with_effect place true d
effect_from place None (Some d) = with_effect place false d
effect_from place None None = Err (refusal place w.Effect Missing)
effect_from place (Some d) (Some e) = Err (refusal place w.Effect Both)

abbrev pub rule_words : List Word
rule_words = w.Id ∷ w.Admit ∷ w.Deny ∷ []

-- [id, effect, condition]
abbrev pub rule_of : ℕ → Bool × Item → Item
rule_of id effect = array_item (uint_item id ∷ uint_item (effect_number effect.0) ∷ effect.1 ∷ [])

abbrev pub effect_at : Place → Members → Said (Bool × Item)
effect_at place table = effect_from place (under w.Admit table) (under w.Deny table)

abbrev pub with_id : Place → Members → ℕ → Said Item
with_id place table id = and_then (effect_at place table) (λ effect. Ok (rule_of id effect))

abbrev pub rule_said : Place → Members → Said Item
rule_said place table = when_known place rule_words table (and_then (number_said place w.Id table) (with_id place table))

abbrev pub rule_at : ℕ → Data → Said Item
rule_at index d = and_then (as_members (placed w.Rule index) w.Rule d) (rule_said (placed w.Rule index))

-- the tables of a list, each as an item
abbrev pub list_said : Word → (ℕ → Data → Said Item) → Members → Said (List Item)
list_said word part table = and_then (tables_under word form (under word table)) (each_onto part [])

abbrev pub policy_words : List Word
policy_words = w.Version ∷ w.Governor ∷ w.Issuer ∷ w.Rule ∷ []

-- [1, version, governors, issuers, rules]
abbrev pub document : ℕ → List Item → List Item → List Item → Item
document version governors issuers rules =
    array_item (uint_item 1 ∷ uint_item version ∷ array_item governors ∷ array_item issuers ∷ array_item rules ∷ [])

abbrev pub with_issuers : Members → ℕ → List Item → List Item → Said Item
with_issuers table version governors issuers =
    and_then (list_said w.Rule rule_at table) (λ rules. Ok (document version governors issuers rules))

abbrev pub with_governors : Members → ℕ → List Item → Said Item
with_governors table version governors = and_then (list_said w.Issuer (holder_at w.Issuer) table) (with_issuers table version governors)

abbrev pub with_version : Members → ℕ → Said Item
with_version table version = and_then (list_said w.Governor (holder_at w.Governor) table) (with_governors table version)

-- the item of a document that a form says: its version, governors, issuers and rules
abbrev pub policy_item_said : Members → Said Item
policy_item_said table = when_known form policy_words table (and_then (number_said form w.Version table) (with_version table))
