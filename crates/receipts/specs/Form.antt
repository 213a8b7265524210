-- The exact form of a receipt (COSE Receipts): from an item to what it says, or the first refusal.
use Rattle.std.specs.Prelude.{◌≡◌, ℕ, ◌==◌, Bool, true, ◌&&◌, nat_le, List, [], ◌∷◌, ◌++◌, length, Option, Some, None, option_map, option_and_then, Result, Ok, Err, if◌then◌else◌}
use Rattle.std.specs.Result.{result_ok}
use Rattle.cbor_core.specs.declared.words.Grammar.TheVariants.{Strict}
use Rattle.cbor_core.specs.declared.tree.Item.{Item}
use Rattle.cbor_core.specs.Spells.{Spells}
use Rattle.cbor_core.specs.Decoding.{WholeFault, strict_item}
use Rattle.cbor_core.specs.Items.{uint_in, bytes_in, text_in, array_in, map_in, tag_in, is_uint, is_nint, is_nil}
use Rattle.receipts.specs.declared.receipt.Named.{Named}
use Rattle.receipts.specs.declared.receipt.Led.{Led}
use Rattle.receipts.specs.declared.receipt.Receipt.{Receipt}
use Rattle.receipts.specs.declared.receipt.Proof.{Proof}
use Rattle.receipts.specs.declared.receipt.Proof.TheVariants.{Inclusion, Consistency}
use Rattle.receipts.specs.declared.receipt.ReceiptStop.{ReceiptStop}
use Rattle.receipts.specs.declared.receipt.ReceiptStop.TheVariants.{Cbor, NotReceipt, BadProtected, BadProof, OutOfMemory}
use Rattle.receipts.specs.Steps.{and_then, or_stop}

-- a number of at most so much, and a string of so many bytes
abbrev pub number_to : ℕ → Item → Option ℕ
number_to high item = option_and_then (λ n. if nat_le n high then Some n else None) (uint_in item)

abbrev pub hash_in : Item → Option (List ℕ)
hash_in item = option_and_then (λ s. if length s == 32 then Some s else None) (bytes_in item)

abbrev pub name_in : Item → Option (List ℕ)
name_in item = option_and_then (λ s. if nat_le 1 (length s) && nat_le (length s) 128 then Some s else None) (text_in item)

-- the value that stands alone beside the number n in a map
abbrev pub alone : (Item → Bool) → List (Item × Item) → Option Item
alone is_key (pair ∷ []) = if is_key pair.0 then Some pair.1 else None
alone is_key _ = None

-- {1: -46, 4: kid, 15: {1: name}, 395: 1, -70001: size}
abbrev pub has_keys : Item × Item → Item × Item → Item × Item → Item × Item → Item × Item → Bool
has_keys alg kid claims structure size =
    is_uint 1 alg.0 && (is_nint 45 alg.1 && (is_uint 4 kid.0 && (is_uint 15 claims.0
    && (is_uint 395 structure.0 && (is_uint 1 structure.1 && is_nint 70000 size.0)))))

abbrev pub named : Option (List ℕ) → Option (List ℕ) → Option ℕ → Option Named
named (Some name) (Some kid) (Some size) = Some (record { name = name; kid = kid; size = size })
named _ _ _ = None

abbrev pub protected_pairs : List (Item × Item) → Option Named
protected_pairs (alg ∷ kid ∷ claims ∷ structure ∷ size ∷ []) =
    if has_keys alg kid claims structure size
    then named (option_and_then name_in (option_and_then (alone (is_uint 1)) (map_in claims.1))) (hash_in kid.1) (number_to 4294967295 size.1)
    else None
protected_pairs _ = None

abbrev pub protected_in : List ℕ → Option Named
protected_in string = option_and_then (λ item. option_and_then protected_pairs (map_in item)) (strict_item string)

-- the only string of the only array beside a label of proofs
abbrev pub only : List Item → Option Item
only (item ∷ []) = Some item
only _ = None

abbrev pub proof_text : (Item → Bool) → Item → Option (List ℕ)
proof_text is_kind proofs =
    option_and_then (λ array. option_and_then (λ item. bytes_in item) (option_and_then only (array_in array)))
    (option_and_then (alone is_kind) (map_in proofs))

abbrev pub proof_item : (Item → Bool) → Item → Option Item
proof_item is_kind proofs = option_and_then strict_item (proof_text is_kind proofs)

-- the hashes of a path, at most 32
abbrev pub hashes_onto : List (List ℕ) → List Item → Option (List (List ℕ))
hashes_onto front [] = Some front
hashes_onto front (item ∷ items) = option_and_then (λ h. hashes_onto (front ++ h ∷ []) items) (hash_in item)

abbrev pub path_in : Item → Option (List (List ℕ))
path_in item = option_and_then (λ items. if nat_le (length items) 32 then hashes_onto [] items else None) (array_in item)

-- [size, index, path], or [old, size, path]
abbrev pub led : Option ℕ → Option ℕ → Option (List (List ℕ)) → Option Led
led (Some first) (Some second) (Some path) = Some (record { first = first; second = second; path = path })
led _ _ _ = None

abbrev pub led_by : List Item → Option Led
led_by (first ∷ second ∷ path ∷ []) = led (number_to 4294967295 first) (number_to 4294967295 second) (path_in path)
led_by _ = None

abbrev pub led_in : Item → Option Led
led_in item = option_and_then led_by (array_in item)

-- [registered_at, rule]
abbrev pub registered : List Item → Option (ℕ × ℕ)
registered (at ∷ rule ∷ []) = option_and_then (λ a. option_map (λ r. (a, r)) (number_to 65535 rule)) (uint_in at)
registered _ = None

-- {396: {-1: [proof]}, -70002: [registered_at, rule]}, or {396: {-2: [proof]}}
abbrev pub inclusion : Item → Item → Option Proof
inclusion proofs registration =
    option_and_then (λ led. option_map (λ at. Inclusion led.first led.second led.path at.0 at.1) (option_and_then registered (array_in registration)))
    (option_and_then led_in (proof_item (is_nint 0) proofs))

abbrev pub consistency : Item → Option Proof
consistency proofs = option_map (λ led. Consistency led.first led.second led.path) (option_and_then led_in (proof_item (is_nint 1) proofs))

abbrev pub proof_in : List (Item × Item) → Option Proof
proof_in (proofs ∷ []) = if is_uint 396 proofs.0 then consistency proofs.1 else None
proof_in (proofs ∷ registration ∷ []) =
    if is_uint 396 proofs.0 && is_nint 70001 registration.0 then inclusion proofs.1 registration.1 else None
proof_in _ = None

-- the parts of a message that is tagged by 18
abbrev pub items_under : ℕ × Item → Option (List Item)
items_under tag = if tag.0 == 18 then array_in tag.1 else None

abbrev pub tagged_items : Item → Option (List Item)
tagged_items item = option_and_then items_under (tag_in item)

abbrev pub made_of : Named → Proof → List ℕ → Receipt
made_of n proof signature = record { name = n.name; kid = n.kid; size = n.size; proof = proof; signature = signature }

-- behind the outer shape
abbrev pub receipt_with : List ℕ → List (Item × Item) → List ℕ → Result Receipt ReceiptStop
receipt_with protected unprotected signature =
    and_then (or_stop BadProtected (protected_in protected)) (λ n.
    and_then (or_stop BadProof (proof_in unprotected)) (λ proof. Ok (made_of n proof signature)))

-- the outer shape: a byte string, a map, nil and a byte string
abbrev pub receipt_outer : Option (List ℕ) → Option (List (Item × Item)) → Bool → Option (List ℕ) → Result Receipt ReceiptStop
receipt_outer (Some p) (Some u) true (Some s) = receipt_with p u s
receipt_outer _ _ _ _ = Err NotReceipt

abbrev pub receipt_by : List Item → Result Receipt ReceiptStop
receipt_by (p ∷ u ∷ c ∷ s ∷ []) = receipt_outer (bytes_in p) (map_in u) (is_nil c) (bytes_in s)
receipt_by _ = Err NotReceipt

-- the receipt that an item is, or the first refusal
unfoldable pub receipt_in : Item → Result Receipt ReceiptStop
receipt_in item = and_then (or_stop NotReceipt (tagged_items item)) receipt_by

-- what was read, as the code answers it
abbrev pub stopped : {A M : Type 0} → ReceiptStop → Result (Option A) M → Result A ReceiptStop
stopped stop (Ok (Some x)) = Ok x
stopped stop (Ok None) = Err stop
stopped stop (Err none) = Err OutOfMemory

-- a stop stands for what the definition tells: any, where memory ran out, and else exactly that stop
abbrev pub IsStop : {A : Type 0} → ReceiptStop → Result A ReceiptStop → Type 0
IsStop OutOfMemory told = Unit {0}
IsStop stop told = told ≡ Err stop

abbrev pub AnswersAs : {A : Type 0} → Result A ReceiptStop → Result A ReceiptStop → Type 0
AnswersAs (Ok found) told = told ≡ Ok found
AnswersAs (Err stop) told = IsStop stop told

abbrev pub ReadsItem : List ℕ → Result Item ReceiptStop → Type 0
ReadsItem bytes (Ok item) = Spells Strict item bytes
ReadsItem bytes (Err (Cbor fault)) = WholeFault Strict bytes fault
ReadsItem bytes (Err OutOfMemory) = Unit {0}
ReadsItem bytes (Err _) = ⊥

-- the decoder's answer, unless memory ran out
abbrev pub IsRefused : List ℕ → ReceiptStop → Type 0
IsRefused bytes (Cbor fault) = WholeFault Strict bytes fault
IsRefused bytes OutOfMemory = Unit {0}
IsRefused bytes NotReceipt = (item : Item) × Spells Strict item bytes × (receipt_in item ≡ Err NotReceipt)
IsRefused bytes BadProtected = (item : Item) × Spells Strict item bytes × (receipt_in item ≡ Err BadProtected)
IsRefused bytes BadProof = (item : Item) × Spells Strict item bytes × (receipt_in item ≡ Err BadProof)

abbrev pub Answered : List ℕ → Result Receipt ReceiptStop → Type 0
Answered bytes (Ok receipt) = (item : Item) × Spells Strict item bytes × (receipt_in item ≡ Ok receipt)
Answered bytes (Err stop) = IsRefused bytes stop

-- the same without a witness: the receipt that the bytes are
unfoldable pub receipt_of : List ℕ → Option Receipt
receipt_of bytes = option_and_then (λ item. result_ok (receipt_in item)) (strict_item bytes)
