-- What a text's form is written as: the strict bytes of the document that it says.
use Rattle.std.specs.Prelude.{◌≡◌, ℕ, ◌==◌, List, Option, Some, None, Result, Ok, Err, if◌then◌else◌}
use Rattle.cbor_core.specs.declared.tree.Item.{Item}
use Rattle.cbor_core.specs.declared.words.Grammar.TheVariants.{Strict}
use Rattle.cbor_core.specs.Spells.{Spells}
use Rattle.cbor_core.specs.Encoding.{HasLength}
use Rattle.policy_rules.specs.declared.documents.Policy.{Policy}
use Rattle.policy_rules.specs.Documents.{policy_in, PolicyOf}
use Rattle.toml.specs.Data.{Members}
use Rattle.toml.specs.Parse.{parse_document}
use Rattle.scitt_forms.specs.declared.refusal.Word.{Word}
use Rattle.scitt_forms.specs.declared.refusal.Word.TheVariants as w
use Rattle.scitt_forms.specs.declared.refusal.Why.TheVariants.{Toml, Limits}
use Rattle.scitt_forms.specs.declared.stop.FormStop.{FormStop}
use Rattle.scitt_forms.specs.declared.stop.FormStop.TheVariants.{Refused, TooLong, OutOfMemory}
use Rattle.scitt_forms.specs.Refusals.{Said, refusal, and_then, or_refuse}
use Rattle.scitt_forms.specs.Fields.{form}
use Rattle.scitt_forms.specs.Policies.{policy_item_said}

-- the table that a text is (TOML 1.0)
abbrev pub table_said : List ℕ → Said Members
table_said text = or_refuse (refusal form w.Form Toml) (parse_document text)

-- the item that a text says, by what says that of its table
abbrev pub item_said : (Members → Said Item) → List ℕ → Said Item
item_said part text = and_then (table_said text) part

-- The answer to an item that was said, or to why none was, where this says which document an item is: bytes that are exactly that
-- document, or the refusal. No bytes come of an item that has no strict bytes, and of any where memory is wanting.
abbrev pub Writes : {D : Type 0} → (List ℕ → D → Type 0) → (Item → Said D) → Said Item → Result (List ℕ) FormStop → Type 0
Writes {D} Of doc said (Ok bytes) = (d : D) × (and_then said doc ≡ Ok d) × Of bytes d
Writes Of doc said (Err (Refused r)) = and_then said doc ≡ Err r
Writes Of doc said (Err TooLong) = (item : Item) × (said ≡ Ok item) × HasLength item None
Writes Of doc said (Err OutOfMemory) = Unit {0}

-- an item's bytes, or that it has none
abbrev pub Encodes : Item → Result (List ℕ) FormStop → Type 0
Encodes item (Ok bytes) = Spells Strict item bytes
Encodes item (Err TooLong) = HasLength item None
Encodes item (Err OutOfMemory) = Unit {0}
Encodes item (Err (Refused r)) = ⊥

-- the key of a policy's place: 2 the version, 3 the governors, 4 the issuers, 5 the rules
abbrev pub word_of : ℕ → Word
word_of place =
    if place == 2 then w.Version else (if place == 3 then w.Governor else (if place == 4 then w.Issuer else (if place == 5 then w.Rule else w.Form)))

abbrev pub judged : Result Policy ℕ → Said Policy
judged (Ok policy) = Ok policy
judged (Err place) = Err (refusal form (word_of place) Limits)

-- the policy document that an item is; one that breaks a rule of documents is refused at the key of its first place that fails
abbrev pub policy_doc : Item → Said Policy
policy_doc item = judged (policy_in item)

abbrev pub WritesPolicy : List ℕ → Result (List ℕ) FormStop → Type 0
WritesPolicy text result = Writes PolicyOf policy_doc (item_said policy_item_said text) result
