-- The item of a message (RFC 9052, 4.2), tagged, and what an encoder answers.
use Rattle.std.specs.Prelude.{◌≡◌, ℕ, ◌+◌, ◌≤◌, true, List, [], ◌∷◌, ◌++◌, length, Option, Some, None, Result, Ok, Err}
use Rattle.cbor_core.specs.declared.words.Grammar.{Grammar}
use Rattle.cbor_core.specs.declared.words.Grammar.TheVariants.{Strict, Wide}
use Rattle.cbor_core.specs.declared.words.EncodeStop.{EncodeStop}
use Rattle.cbor_core.specs.declared.words.EncodeStop.TheVariants.{NotStrict, OutOfMemory}
use Rattle.cbor_core.specs.declared.tree.Item.{Item}
use Rattle.cbor_core.specs.declared.tree.Node.TheVariants.{Array, Map, Tag, Simple}
use Rattle.cbor_core.specs.Spells.{Spells}
use Rattle.cbor_core.specs.Encoding.{HasLength}
use Rattle.cbor_core.specs.Limits.{longest_string}
use Rattle.cose_sign1.specs.declared.sign1.Sign1.{Sign1}
use Rattle.cose_sign1.specs.Sign1Of.{headers_with, Sign1Of}
use Rattle.cose_sign1.specs.Strings.{string_len, string_text}
use Rattle.cose_sign1.specs.Tbs.{byte_item}

-- a payload, or nil where it is detached
abbrev pub payload_item : Option (List ℕ) → Item
payload_item None = record { node = Simple 22 }
payload_item (Some payload) = byte_item payload

abbrev pub array_item : List Item → Item
array_item items = record { node = Array items }

abbrev pub message_parts : List ℕ → Item → Option (List ℕ) → List ℕ → List Item
message_parts protected unprotected payload signature = byte_item protected ∷ unprotected ∷ payload_item payload ∷ byte_item signature ∷ []

abbrev pub tagged_item : List Item → Item
tagged_item items = record { node = Tag 18 (array_item items) }

-- tag 18 on [protected, unprotected, payload, signature]
abbrev pub message_item : List ℕ → Item → Option (List ℕ) → List ℕ → Item
message_item protected unprotected payload signature =
    tagged_item (message_parts protected unprotected payload signature)

-- the strict bytes of the item, or that there are none, or too many; unless memory ran out
abbrev pub Encodes : Item → Result (List ℕ) EncodeStop → Type 0
Encodes item (Ok bytes) = Spells Strict item bytes
Encodes item (Err NotStrict) = HasLength item None
Encodes item (Err OutOfMemory) = Unit {0}

-- the message whose unprotected map is empty
abbrev pub bare_item : List ℕ → List ℕ → List ℕ → Item
bare_item protected payload signature = message_item protected (record { node = Map [] }) (Some payload) signature

-- how many bytes its strict spelling has: the tag, the array's head, the empty map, and three strings
abbrev pub bare_len : List ℕ → List ℕ → List ℕ → ℕ
bare_len protected payload signature =
    3 + string_len (length protected) + string_len (length payload) + string_len (length signature)

-- its strict spelling
unfoldable pub bare_text : List ℕ → List ℕ → List ℕ → List ℕ
bare_text protected payload signature =
    (210 ∷ 132 ∷ []) ++ (string_text protected ++ ((160 ∷ []) ++ (string_text payload ++ string_text signature)))

-- a message without its unprotected header, tagged
abbrev pub bare_of : Sign1 → Sign1
bare_of v = record {
  tagged = true;
  protected = v.protected;
  headers = headers_with v.headers.protected [];
  payload = v.payload;
  signature = v.signature;
}

-- bytes that spell a message without its unprotected header are that message
abbrev pub BareIsMessage : Type 0
BareIsMessage = (bytes logged payload : List ℕ) (v : Sign1) → Sign1Of bytes v → v.payload ≡ Some payload → Spells Wide (bare_item v.protected payload v.signature) logged → Sign1Of logged (bare_of v)

-- the spelling of a message whose unprotected map is empty, in either grammar, and how many bytes it has
abbrev pub BareIsSpelled : Type 0
BareIsSpelled = (g : Grammar) (protected payload signature : List ℕ) → length protected ≤ longest_string → length payload ≤ longest_string → length signature ≤ longest_string
    → Spells g (bare_item protected payload signature) (bare_text protected payload signature) × (length (bare_text protected payload signature) ≡ bare_len protected payload signature)
