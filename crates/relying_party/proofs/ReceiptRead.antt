-- The receipt that bytes are, as the decoder answers it.
use Rattle.std.proofs.Common.{◌≡◌, ℕ, List, Option, Some, None, Ok, Err, refl, sym, ap, ◌∙◌}
use Rattle.std.specs.Prelude.{option_and_then}
use Rattle.std.specs.Result.{result_ok}
use Rattle.cbor_core.specs.declared.words.Grammar.TheVariants.{Strict}
use Rattle.cbor_core.specs.declared.words.Fault.{Fault}
use Rattle.cbor_core.specs.declared.tree.Item.{Item}
use Rattle.cbor_core.specs.Bytes.{IsBytes}
use Rattle.cbor_core.specs.Spells.{Spells}
use Rattle.cbor_core.specs.Decoding.{WholeFault, strict_item, NeverBoth, ItemIsSpelled, SpelledIsItem}
use Rattle.receipts.specs.declared.receipt.Receipt.{Receipt}
use Rattle.receipts.specs.declared.receipt.ReceiptStop.{ReceiptStop}
use Rattle.receipts.specs.declared.receipt.ReceiptStop.TheVariants.{Cbor, NotReceipt, BadProtected, BadProof, OutOfMemory}
use Rattle.receipts.specs.Form.{receipt_in, Answered, receipt_of}

by_item : (bytes : List ℕ) (item : Item) → strict_item bytes ≡ Some item → receipt_of bytes ≡ result_ok (receipt_in item)
unfolding receipt_of
by_item bytes item e = ap (λ (o : Option Item). option_and_then (λ (i : Item). result_ok (receipt_in i)) o) e

by_none : (bytes : List ℕ) → strict_item bytes ≡ None → receipt_of bytes ≡ None
unfolding receipt_of
by_none bytes e = ap (λ (o : Option Item). option_and_then (λ (i : Item). result_ok (receipt_in i)) o) e

pub is_read : SpelledIsItem → (bytes : List ℕ) (r : Receipt) → Answered bytes (Ok r) → Some r ≡ receipt_of bytes
is_read given bytes r (item, spelled, is) = sym (by_item bytes item (given bytes item spelled) ∙ ap result_ok is)

refused : SpelledIsItem → (bytes : List ℕ) (item : Item) (stop : ReceiptStop) → Spells Strict item bytes → receipt_in item ≡ Err stop → None ≡ receipt_of bytes
refused given bytes item stop spelled is = sym (by_item bytes item (given bytes item spelled) ∙ ap result_ok is)

faulty : ItemIsSpelled → NeverBoth → (bytes : List ℕ) (fault : Fault) → IsBytes bytes → WholeFault Strict bytes fault → (o : Option Item) → strict_item bytes ≡ o → None ≡ receipt_of bytes
faulty spelled never bytes fault fits at None e = sym (by_none bytes e)
faulty spelled never bytes fault fits at (Some item) e = absurd (never Strict bytes item fault (spelled bytes item fits e) at)

pub none_read : SpelledIsItem → ItemIsSpelled → NeverBoth → (bytes : List ℕ) (stop : ReceiptStop) → (stop ≡ OutOfMemory → ⊥) → IsBytes bytes → Answered bytes (Err stop) → None ≡ receipt_of bytes
none_read given spelled never bytes (Cbor fault) other fits at = faulty spelled never bytes fault fits at (strict_item bytes) refl
none_read given spelled never bytes NotReceipt other fits (item, s, is) = refused given bytes item NotReceipt s is
none_read given spelled never bytes BadProtected other fits (item, s, is) = refused given bytes item BadProtected s is
none_read given spelled never bytes BadProof other fits (item, s, is) = refused given bytes item BadProof s is
none_read given spelled never bytes OutOfMemory other fits at = absurd (other refl)
