-- Trust files: the item that a form says.
use Rattle.std.specs.Prelude.{ℕ, List, [], ◌∷◌, Option, Some, None, Ok}
use Rattle.cbor_core.specs.declared.tree.Item.{Item}
use Rattle.policy_rules.specs.Spelling.{uint_item, text_item, bytes_item, array_item}
use Rattle.toml.specs.Data.{Data, Members}
use Rattle.scitt_forms.specs.declared.refusal.Place.{Place}
use Rattle.scitt_forms.specs.declared.refusal.Word.{Word}
use Rattle.scitt_forms.specs.declared.refusal.Word.TheVariants as w
use Rattle.scitt_forms.specs.Refusals.{Said, and_then}
use Rattle.scitt_forms.specs.Fields.{form, as_members, text_said, key_said, placed, when_known}
use Rattle.scitt_forms.specs.Holders.{holder_at}
use Rattle.scitt_forms.specs.Policies.{list_said}

abbrev pub service_words : List Word
service_words = w.Name ∷ w.Key ∷ []

-- [name, key]
abbrev pub service : List ℕ → List ℕ → Item
service name key = array_item (text_item name ∷ bytes_item key ∷ [])

abbrev pub with_name : Place → Members → List ℕ → Said Item
with_name place table name = and_then (key_said place table) (λ key. Ok (service name key))

abbrev pub service_said : Place → Members → Said Item
service_said place table = when_known place service_words table (and_then (text_said place w.Name table) (with_name place table))

abbrev pub service_at : ℕ → Data → Said Item
service_at index d = and_then (as_members (placed w.Service index) w.Service d) (service_said (placed w.Service index))

abbrev pub trust_words : List Word
trust_words = w.Service ∷ w.Issuer ∷ []

-- [1, services, issuers]
abbrev pub trust : List Item → List Item → Item
trust services issuers = array_item (uint_item 1 ∷ array_item services ∷ array_item issuers ∷ [])

abbrev pub with_services : Members → List Item → Said Item
with_services table services = and_then (list_said w.Issuer (holder_at w.Issuer) table) (λ issuers. Ok (trust services issuers))

-- the item of a trust file that a form says: its services and its issuers
abbrev pub trust_item_said : Members → Said Item
trust_item_said table = when_known form trust_words table (and_then (list_said w.Service service_at table) (with_services table))
