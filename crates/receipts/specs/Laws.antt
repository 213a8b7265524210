-- What holds of every receipt within the limits.
use Rattle.std.specs.Prelude.{◌≡◌, ℕ, ◌≤◌, true, List, length, Some, Ok}
use Rattle.cbor_core.specs.declared.words.Grammar.TheVariants.{Strict}
use Rattle.cbor_core.specs.Limits.{longest_string, most_containers}
use Rattle.cbor_core.specs.Spells.{Spells}
use Rattle.cbor_core.specs.Encoding.{most}
use Rattle.cbor_core.specs.Fitting.{is_strict_item, strict_len}
use Rattle.receipts.specs.declared.receipt.Receipt.{Receipt}
use Rattle.receipts.specs.declared.receipt.Proof.{Proof}
use Rattle.receipts.specs.Form.{receipt_in, receipt_of}
use Rattle.receipts.specs.Written.{protected_item, proof_inner, receipt_item}
use Rattle.receipts.specs.Fits.{NameFits, ProofFits, Fits}

-- the protected string's map has strict bytes, and few
abbrev pub ProtectedIsStrict : Type 0
ProtectedIsStrict = (name kid : List ℕ) (size : ℕ) → NameFits name kid size
    → (is_strict_item most_containers (protected_item name kid size) ≡ true) × (strict_len most_containers (protected_item name kid size) ≤ 300)

-- and so has a proof
abbrev pub ProofIsStrict : Type 0
ProofIsStrict = (proof : Proof) → ProofFits proof → (is_strict_item most_containers (proof_inner proof) ≡ true) × (strict_len most_containers (proof_inner proof) ≤ 2000)

-- and the whole, where the signature has at most 4,198,400 bytes
abbrev pub ReceiptIsStrict : Type 0
ReceiptIsStrict = (r : Receipt) → Fits r → length r.signature ≤ longest_string → (is_strict_item most_containers (receipt_item r) ≡ true) × (strict_len most_containers (receipt_item r) ≤ most)

-- what it is written as is read as the receipt
abbrev pub ReceiptIsRead : Type 0
ReceiptIsRead = (r : Receipt) → Fits r → receipt_in (receipt_item r) ≡ Ok r

-- and so are bytes that spell that
abbrev pub BytesAreReceipt : Type 0
BytesAreReceipt = (r : Receipt) (bytes : List ℕ) → Fits r → Spells Strict (receipt_item r) bytes → receipt_of bytes ≡ Some r
