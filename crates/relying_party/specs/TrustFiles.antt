-- Trust files, as items spell them.
use Rattle.std.specs.Prelude.{◌≡◌, ℕ, ◌==◌, ◌&&◌, nat_le, List, [], ◌∷◌, ◌++◌, length, Option, Some, None, option_and_then, Result, Ok, Err, if◌then◌else◌}
use Rattle.cbor_core.specs.declared.words.Grammar.TheVariants.{Strict}
use Rattle.cbor_core.specs.declared.tree.Item.{Item}
use Rattle.cbor_core.specs.Spells.{Spells}
use Rattle.cbor_core.specs.Decoding.{WholeFault, strict_item}
use Rattle.cbor_core.specs.Items.{bytes_in, text_in, array_in, is_uint}
use Rattle.relying_party.specs.declared.trust.Issuer.{Issuer}
use Rattle.relying_party.specs.declared.trust.Trust.{Trust}
use Rattle.relying_party.specs.declared.trust.TrustStop.{TrustStop}
use Rattle.relying_party.specs.declared.trust.TrustStop.TheVariants.{Cbor, BadTrust, OutOfMemory}
use Rattle.relying_party.specs.Parties.{ServiceKey}

-- an HSS public key: a byte string of 60 bytes
abbrev pub key_in : Item → Option (List ℕ)
key_in item = option_and_then (λ s. if length s == 60 then Some s else None) (bytes_in item)

-- [name, key]
abbrev pub service_from : Option (List ℕ) → Option (List ℕ) → Option ServiceKey
service_from (Some name) (Some key) = Some (record { name = name; key = key })
service_from _ _ = None

abbrev pub service_of_parts : List Item → Option ServiceKey
service_of_parts (name ∷ key ∷ []) = service_from (text_in name) (key_in key)
service_of_parts _ = None

abbrev pub service_in : Item → Option ServiceKey
service_in item = option_and_then service_of_parts (array_in item)

-- [iss, kid, key]
abbrev pub issuer_from : Option (List ℕ) → Option (List ℕ) → Option (List ℕ) → Option Issuer
issuer_from (Some iss) (Some kid) (Some key) = Some (record { iss = iss; kid = kid; key = key })
issuer_from _ _ _ = None

abbrev pub issuer_of_parts : List Item → Option Issuer
issuer_of_parts (iss ∷ kid ∷ key ∷ []) = issuer_from (text_in iss) (bytes_in kid) (key_in key)
issuer_of_parts _ = None

abbrev pub issuer_in : Item → Option Issuer
issuer_in item = option_and_then issuer_of_parts (array_in item)

-- what each item is, behind those in front
abbrev pub each_onto : {A : Type 0} → (Item → Option A) → List A → List Item → Option (List A)
each_onto part front [] = Some front
each_onto part front (item ∷ items) = option_and_then (λ x. each_onto part (front ++ x ∷ []) items) (part item)

-- an array of so many items, and what each of them is
abbrev pub so_many : {A : Type 0} → (Item → Option A) → ℕ → ℕ → List Item → Option (List A)
so_many part low high items = if nat_le low (length items) && nat_le (length items) high then each_onto part [] items else None

abbrev pub list_in : {A : Type 0} → (Item → Option A) → ℕ → ℕ → Item → Option (List A)
list_in part low high item = option_and_then (so_many part low high) (array_in item)

abbrev pub trust_from : Option (List ServiceKey) → Option (List Issuer) → Option Trust
trust_from (Some services) (Some issuers) = Some (record { services = services; issuers = issuers })
trust_from _ _ = None

-- [1, services, issuers]
abbrev pub trust_of_parts : List Item → Option Trust
trust_of_parts (form ∷ services ∷ issuers ∷ []) =
    if is_uint 1 form then trust_from (list_in service_in 1 64 services) (list_in issuer_in 0 256 issuers) else None
trust_of_parts _ = None

-- the trust file that an item is
unfoldable pub trust_in : Item → Option Trust
trust_in item = option_and_then trust_of_parts (array_in item)

-- the trust file that bytes are, as a function of them
unfoldable pub trust_of : List ℕ → Option Trust
trust_of bytes = option_and_then trust_in (strict_item bytes)

-- the bytes are this trust file
abbrev pub TrustOf : List ℕ → Trust → Type 0
TrustOf bytes trust = (item : Item) × Spells Strict item bytes × (trust_in item ≡ Some trust)

-- why they are none: the first fault of the bytes as an item, or that the item is another one
abbrev pub TrustFault : List ℕ → TrustStop → Type 0
TrustFault bytes (Cbor fault) = WholeFault Strict bytes fault
TrustFault bytes BadTrust = (item : Item) × Spells Strict item bytes × (trust_in item ≡ None)
TrustFault bytes OutOfMemory = ⊥

-- the decoder's answer, unless memory ran out
abbrev pub Decoded : List ℕ → Result Trust TrustStop → Type 0
Decoded bytes (Ok trust) = TrustOf bytes trust
Decoded bytes (Err OutOfMemory) = Unit {0}
Decoded bytes (Err stop) = TrustFault bytes stop

-- what reading the bytes answers
abbrev pub ReadsItem : List ℕ → Result Item TrustStop → Type 0
ReadsItem bytes (Ok item) = Spells Strict item bytes
ReadsItem bytes (Err (Cbor fault)) = WholeFault Strict bytes fault
ReadsItem bytes (Err OutOfMemory) = Unit {0}
ReadsItem bytes (Err BadTrust) = ⊥

-- a call answers what the definition tells, unless memory ran out
abbrev pub AnswersAs : Result Trust TrustStop → Option Trust → Type 0
AnswersAs (Ok trust) told = told ≡ Some trust
AnswersAs (Err BadTrust) told = told ≡ None
AnswersAs (Err OutOfMemory) told = Unit {0}
AnswersAs (Err (Cbor fault)) told = ⊥
