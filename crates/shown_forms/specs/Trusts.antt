-- What the tables of a trust file say.
use Rattle.std.specs.Prelude.{◌≡◌, ◌≤◌, List, [], map, Ok}
use Rattle.cbor_core.specs.declared.tree.Item.{Item}
use Rattle.policy_rules.specs.declared.documents.Holder.{Holder}
use Rattle.policy_rules.specs.Spelling.{holder_item}
use Rattle.relying_party.specs.declared.trust.Issuer.{Issuer}
use Rattle.relying_party.specs.declared.trust.Trust.{Trust}
use Rattle.relying_party.specs.Parties.{ServiceKey}
use Rattle.toml.specs.Data.{Items, Members, items_depth, members_depth}
use Rattle.scitt_forms.specs.declared.refusal.Place.{Place}
use Rattle.scitt_forms.specs.Fields.{each_onto}
use Rattle.scitt_forms.specs.Trusts.{service, service_said, service_at, trust, trust_item_said}

-- a trusted issuer as a holder
abbrev pub holder_of : Issuer → Holder
holder_of i = record { iss = i.iss; kid = i.kid; key = i.key }

-- the item that a service is written as
abbrev pub service_item : ServiceKey → Item
service_item s = service s.name s.key

-- the item that a trust file is written as
abbrev pub trust_item : Trust → Item
trust_item t = trust (map service_item t.services) (map holder_item (map holder_of t.issuers))

-- the table says the service, wherever it stands
pub record ServiceTable (s : ServiceKey) (table : Members) : Type 0 where
  pub says : (place : Place) → service_said place table ≡ Ok (service_item s)
  pub shallow : members_depth table ≤ 0

pub record ServiceTables (services : List ServiceKey) (ds : Items) : Type 0 where
  pub say : each_onto service_at [] ds ≡ Ok (map service_item services)
  pub shallow : items_depth ds ≤ 1

-- the table says the trust file
pub record TrustTable (t : Trust) (table : Members) : Type 0 where
  pub says : trust_item_said table ≡ Ok (trust_item t)
  pub shallow : members_depth table ≤ 2
