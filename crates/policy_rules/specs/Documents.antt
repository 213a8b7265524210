-- Policy documents, as items spell them.
use Rattle.std.specs.Prelude.{◌≡◌, ℕ, ◌==◌, sum_by, Bool, true, false, not, ◌&&◌, nat_le, List, [], ◌∷◌, length, Option, Some, None, option_map, option_and_then, Result, Ok, Err, if◌then◌else◌}
use Rattle.std.specs.Str.{bytes_eq}
use Rattle.std.specs.List.{list_any}
use Rattle.cbor_core.specs.declared.words.Grammar.TheVariants.{Strict}
use Rattle.cbor_core.specs.declared.tree.Item.{Item}
use Rattle.cbor_core.specs.declared.tree.Node.{Node-F, out-Node}
use Rattle.cbor_core.specs.Tree.{Layer}
use Rattle.cbor_core.specs.Spells.{Spells}
use Rattle.cbor_core.specs.Decoding.{WholeFault, strict_item}
use Rattle.policy_rules.specs.declared.documents.Holder.{Holder}
use Rattle.policy_rules.specs.declared.documents.Rule.{Rule}
use Rattle.policy_rules.specs.declared.documents.Policy.{Policy}
use Rattle.policy_rules.specs.declared.documents.PolicyStop.{PolicyStop}
use Rattle.policy_rules.specs.declared.documents.PolicyStop.TheVariants.{Cbor, BadPolicy, OutOfMemory}
use Rattle.policy_rules.specs.Meaning.{cond_count}
use Rattle.policy_rules.specs.Conditions.{number_in, text_in, items_in, each_onto, cond_in}

-- a byte string
abbrev pub bytes_in : Layer → Option (List ℕ)
bytes_in (Node-F.Bytes bytes) = Some bytes
bytes_in _ = None

-- a string of so many bytes
abbrev pub sized : ℕ → ℕ → List ℕ → Option (List ℕ)
sized low high s = if nat_le low (length s) && nat_le (length s) high then Some s else None

-- a number from one to another
abbrev pub ranged : ℕ → ℕ → ℕ → Option ℕ
ranged low high n = if nat_le low n && nat_le n high then Some n else None

abbrev pub iss_in : Item → Option (List ℕ)
iss_in item = option_and_then (sized 1 1024) (text_in (out-Node item.node))

abbrev pub kid_in : Item → Option (List ℕ)
kid_in item = option_and_then (sized 1 64) (bytes_in (out-Node item.node))

abbrev pub key_in : Item → Option (List ℕ)
key_in item = option_and_then (sized 60 60) (bytes_in (out-Node item.node))

-- a holder by its parts
abbrev pub holder_of_parts : List Item → Option Holder
holder_of_parts (iss ∷ kid ∷ key ∷ []) =
    option_and_then (λ i. option_and_then (λ k. option_map (λ y. record { iss = i; kid = k; key = y }) (key_in key)) (kid_in kid)) (iss_in iss)
holder_of_parts _ = None

abbrev pub holder_in : Item → Option Holder
holder_in item = option_and_then holder_of_parts (items_in (out-Node item.node))

-- no two of them are the same by this test
abbrev pub are_distinct : {A : Type 0} → (A → A → Bool) → List A → Bool
are_distinct same [] = true
are_distinct same (x ∷ xs) = not (list_any (same x) xs) && are_distinct same xs

-- two holders have one name
abbrev pub same_holder : Holder → Holder → Bool
same_holder a b = bytes_eq a.iss b.iss && bytes_eq a.kid b.kid

abbrev pub when_distinct : List Holder → Option (List Holder)
when_distinct holders = if are_distinct same_holder holders then Some holders else None

-- so many items, each a holder, with names of their own
abbrev pub holders_of : ℕ → ℕ → List Item → Option (List Holder)
holders_of low high items =
    if nat_le low (length items) && nat_le (length items) high then option_and_then when_distinct (each_onto holder_in [] items) else None

abbrev pub holders_in : ℕ → ℕ → Item → Option (List Holder)
holders_in low high item = option_and_then (holders_of low high) (items_in (out-Node item.node))

abbrev pub version_in : Item → Option ℕ
version_in item = option_and_then (ranged 1 4294967295) (number_in (out-Node item.node))

-- effect 0 denies, and 1 admits
abbrev pub effect_of : ℕ → Option Bool
effect_of n = if n == 0 then Some false else (if n == 1 then Some true else None)

abbrev pub rule_id_in : Item → Option ℕ
rule_id_in item = option_and_then (ranged 100 65535) (number_in (out-Node item.node))

abbrev pub effect_in : Item → Option Bool
effect_in item = option_and_then effect_of (number_in (out-Node item.node))

-- the deepest conditions are 8 deep
abbrev pub most_deep : ℕ
most_deep = 8

abbrev pub rule_of_parts : List Item → Option Rule
rule_of_parts (id ∷ effect ∷ cond ∷ []) =
    option_and_then (λ n. option_and_then (λ e. option_map (λ c. record { id = n; admit = e; cond = c }) (cond_in most_deep cond)) (effect_in effect)) (rule_id_in id)
rule_of_parts _ = None

abbrev pub rule_in : Item → Option Rule
rule_in item = option_and_then rule_of_parts (items_in (out-Node item.node))

abbrev pub same_id : Rule → Rule → Bool
same_id a b = a.id == b.id

-- what was read at a place, or the fault of that place
abbrev pub at_place : {A : Type 0} → ℕ → Option A → Result A ℕ
at_place place None = Err place
at_place place (Some x) = Ok x

-- a place, and then those behind it
abbrev pub and_then : {A B : Type 0} → Result A ℕ → (A → Result B ℕ) → Result B ℕ
and_then (Ok found) next = next found
and_then (Err place) next = Err place

-- all rules' conditions and their parts
abbrev pub conds_of : List Rule → ℕ
conds_of rules = sum_by (λ r. cond_count r.cond) rules

abbrev pub when_fit : List Rule → Option (List Rule)
when_fit rules = if are_distinct same_id rules && nat_le (conds_of rules) 4096 then Some rules else None

abbrev pub rules_of : List Item → Option (List Rule)
rules_of items = if nat_le (length items) 256 then option_and_then when_fit (each_onto rule_in [] items) else None

abbrev pub rules_in : Item → Option (List Rule)
rules_in item = option_and_then rules_of (items_in (out-Node item.node))

-- the parts of a document, place by place
abbrev pub policy_of_parts : Item → Item → Item → Item → Result Policy ℕ
policy_of_parts version governors issuers rules =
    and_then (at_place 2 (version_in version)) (λ v.
    and_then (at_place 3 (holders_in 1 16 governors)) (λ g.
    and_then (at_place 4 (holders_in 0 256 issuers)) (λ i.
    and_then (at_place 5 (rules_in rules)) (λ r. Ok (record { version = v; governors = g; issuers = i; rules = r })))))

abbrev pub is_one : Layer → Bool
is_one (Node-F.Uint n) = n == 1
is_one _ = false

abbrev pub policy_by : List Item → Result Policy ℕ
policy_by (form ∷ version ∷ governors ∷ issuers ∷ rules ∷ []) =
    if is_one (out-Node form.node) then policy_of_parts version governors issuers rules else Err 1
policy_by _ = Err 1

abbrev pub policy_layer : Layer → Result Policy ℕ
policy_layer (Node-F.Array items) = policy_by items
policy_layer _ = Err 1

-- the document that an item is, or the first place that fails
unfoldable pub policy_in : Item → Result Policy ℕ
policy_in item = policy_layer (out-Node item.node)

-- what was read at a place, as the code answers it
abbrev pub placed : {A M : Type 0} → ℕ → Result (Option A) M → Result A PolicyStop
placed place (Ok (Some x)) = Ok x
placed place (Ok None) = Err (BadPolicy place)
placed place (Err none) = Err OutOfMemory

-- a call answers what the definition tells, unless memory ran out
abbrev pub AnswersAs : {A : Type 0} → Result A PolicyStop → Result A ℕ → Type 0
AnswersAs (Ok found) told = told ≡ Ok found
AnswersAs (Err (BadPolicy place)) told = told ≡ Err place
AnswersAs (Err OutOfMemory) told = Unit {0}
AnswersAs (Err (Cbor fault)) told = ⊥

-- the bytes are this document
abbrev pub PolicyOf : List ℕ → Policy → Type 0
PolicyOf bytes policy = (item : Item) × Spells Strict item bytes × (policy_in item ≡ Ok policy)

-- why they are none: the first fault of the bytes as an item, or the first place that fails
abbrev pub PolicyFault : List ℕ → PolicyStop → Type 0
PolicyFault bytes (Cbor fault) = WholeFault Strict bytes fault
PolicyFault bytes (BadPolicy place) = (item : Item) × Spells Strict item bytes × (policy_in item ≡ Err place)
PolicyFault bytes OutOfMemory = ⊥

-- the decoder's answer, unless memory ran out
abbrev pub Decoded : List ℕ → Result Policy PolicyStop → Type 0
Decoded bytes (Ok policy) = PolicyOf bytes policy
Decoded bytes (Err OutOfMemory) = Unit {0}
Decoded bytes (Err stop) = PolicyFault bytes stop

-- the document that bytes are, where they are one
abbrev pub document_in : Result Policy ℕ → Option Policy
document_in (Ok policy) = Some policy
document_in (Err place) = None

unfoldable pub document_of : List ℕ → Option Policy
document_of bytes = option_and_then (λ item. document_in (policy_in item)) (strict_item bytes)

-- the policy in force before any document: its only governor is this holder, and nobody else may issue
abbrev pub bootstrap_of : Holder → Policy
bootstrap_of governor = record { version = 0; governors = governor ∷ []; issuers = []; rules = [] }

-- what reading the bytes answers
abbrev pub ReadsItem : List ℕ → Result Item PolicyStop → Type 0
ReadsItem bytes (Ok item) = Spells Strict item bytes
ReadsItem bytes (Err (Cbor fault)) = WholeFault Strict bytes fault
ReadsItem bytes (Err OutOfMemory) = Unit {0}
ReadsItem bytes (Err (BadPolicy place)) = ⊥
