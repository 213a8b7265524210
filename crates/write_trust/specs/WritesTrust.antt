-- What a text's form is written as: the strict bytes of the trust file that it says.
use Rattle.std.specs.Prelude.{ℕ, ◌&&◌, nat_le, not, Bool, false, List, [], ◌∷◌, length, Option, Some, None, Result, Ok, Err, if◌then◌else◌}
use Rattle.cbor_core.specs.declared.tree.Item.{Item}
use Rattle.cbor_core.specs.Items.{array_in}
use Rattle.relying_party.specs.declared.trust.Trust.{Trust}
use Rattle.relying_party.specs.TrustFiles.{trust_in, TrustOf}
use Rattle.scitt_forms.specs.declared.refusal.Word.{Word}
use Rattle.scitt_forms.specs.declared.refusal.Word.TheVariants as w
use Rattle.scitt_forms.specs.declared.refusal.Why.TheVariants.{Limits}
use Rattle.scitt_forms.specs.declared.refusal.Refusal.{Refusal}
use Rattle.scitt_forms.specs.declared.stop.FormStop.{FormStop}
use Rattle.scitt_forms.specs.Refusals.{Said, refusal}
use Rattle.scitt_forms.specs.Fields.{form}
use Rattle.scitt_forms.specs.Trusts.{trust_item_said}
use Rattle.scitt_forms.specs.Writing.{item_said, Writes}

-- an array of so many items
abbrev pub has_between : ℕ → ℕ → Option (List Item) → Bool
has_between low high None = false
has_between low high (Some items) = nat_le low (length items) && nat_le (length items) high

-- the first list that breaks its limit: 1 to 64 services, at most 256 issuers
abbrev pub past_of_parts : Item → Item → Word
past_of_parts services issuers =
    if not (has_between 1 64 (array_in services)) then w.Service else (if not (has_between 0 256 (array_in issuers)) then w.Issuer else w.Form)

abbrev pub past_by : Option (List Item) → Word
past_by (Some (form ∷ services ∷ issuers ∷ [])) = past_of_parts services issuers
past_by _ = w.Form

abbrev pub past_word : Item → Word
past_word item = past_by (array_in item)

-- a limit is broken at this key
abbrev pub limits : Word → Refusal
limits word = refusal form word Limits

abbrev pub judged : Word → Option Trust → Said Trust
judged word (Some trust) = Ok trust
judged word None = Err (limits word)

-- the trust file that an item is; one that breaks a limit is refused at the key of the first list that does
abbrev pub trust_doc : Item → Said Trust
trust_doc item = judged (past_word item) (trust_in item)

abbrev pub WritesTrust : List ℕ → Result (List ℕ) FormStop → Type 0
WritesTrust text result = Writes TrustOf trust_doc (item_said trust_item_said text) result
