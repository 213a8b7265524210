-- A message to which a receipt was attached: label 394 alone stands in its unprotected map, with one receipt more.
use Rattle.std.specs.Prelude.{◌≡◌, ℕ, pos, ◌<◌, ◌≤◌, ◌⊎◌, true, List, [], ◌∷◌, ◌++◌, length, Option, Some, None, option_and_then, Result, Ok, Err}
use Rattle.cbor_core.specs.declared.words.Grammar.TheVariants.{Strict}
use Rattle.cbor_core.specs.declared.tree.Item.{Item}
use Rattle.cbor_core.specs.Limits.{most_parts}
use Rattle.cbor_core.specs.Spells.{Spells}
use Rattle.cbor_core.specs.Items.{uint_item, bytes_item, array_item, map_item, array_in}
use Rattle.cose_sign1.specs.declared.sign1.Sign1.{Sign1}
use Rattle.cose_sign1.specs.declared.labels.Label.TheVariants.{Int}
use Rattle.cose_sign1.specs.declared.stops.Sign1Stop.{Sign1Stop}
use Rattle.cose_sign1.specs.declared.stops.Sign1Stop.TheVariants.{BadHeader, OutOfMemory}
use Rattle.cose_sign1.specs.Labels.{value_at}
use Rattle.cose_sign1.specs.Message.{message_item}
use Rattle.cose_sign1.specs.Sign1Of.{headers_with, Sign1Of, Sign1Fault}

abbrev pub items_or : Option (List Item) → List Item
items_or None = []
items_or (Some items) = items

-- the receipts that are there: the items of the array beside label 394
abbrev pub receipt_items : List (Item × Item) → List Item
receipt_items unprotected = items_or (option_and_then array_in (value_at 394 unprotected))

-- label 394 alone, with these receipts and then the new one
abbrev pub attached_entries : List Item → List ℕ → List (Item × Item)
attached_entries receipts receipt = (uint_item 394, array_item (receipts ++ bytes_item receipt ∷ [])) ∷ []

abbrev pub entries_after : Sign1 → List ℕ → List (Item × Item)
entries_after v receipt = attached_entries (receipt_items v.headers.unprotected) receipt

-- the tagged message with another unprotected item
abbrev pub message_with : Sign1 → Item → Item
message_with v unprotected = message_item v.protected unprotected v.payload v.signature

-- the tagged message with these unprotected entries
abbrev pub attached_item : Sign1 → List ℕ → Item
attached_item v receipt = message_with v (map_item (entries_after v receipt))

abbrev pub attached_of : Sign1 → List ℕ → Sign1
attached_of v receipt = record {
  tagged = true;
  protected = v.protected;
  headers = headers_with v.headers.protected (entries_after v receipt);
  payload = v.payload;
  signature = v.signature;
}

-- one receipt more may stand there
abbrev pub HasRoom : Sign1 → Type 0
HasRoom v = length (receipt_items v.headers.unprotected) < most_parts

-- some bytes are this message
abbrev pub IsMessage : Sign1 → Type 0
IsMessage v = (bytes : List ℕ) × Sign1Of bytes v

-- the strict bytes of the message with the receipt, which are that message
abbrev pub Attached : Sign1 → List ℕ → List ℕ → Type 0
Attached v receipt attached = Spells Strict (attached_item v receipt) attached × Sign1Of attached (attached_of v receipt)

-- the message is one, and as many receipts as an array may have are there
abbrev pub IsFull : List ℕ → Type 0
IsFull bytes = (v : Sign1) × Sign1Of bytes v × (most_parts ≤ length (receipt_items v.headers.unprotected))

-- what attaching answers, unless memory ran out: the strict bytes of the message with the receipt, which are that message; or the
-- step that fails
abbrev pub Attaches : List ℕ → List ℕ → Result (List ℕ) Sign1Stop → Type 0
Attaches bytes receipt (Ok attached) = (v : Sign1) × Sign1Of bytes v × HasRoom v × Attached v receipt attached
Attaches bytes receipt (Err (BadHeader label)) = Sign1Fault bytes (BadHeader label) ⊎ ((label ≡ Int (pos 394)) × IsFull bytes)
Attaches bytes receipt (Err OutOfMemory) = Unit {0}
Attaches bytes receipt (Err stop) = Sign1Fault bytes stop
