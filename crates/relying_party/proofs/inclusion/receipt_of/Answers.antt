use Rattle.std.proofs.Common.{arith}
use Rattle.receipts.specs.declared.receipt.ReceiptStop.TheVariants.{Cbor, NotReceipt, BadProtected, BadProof}
use Rattle.relying_party.proofs.ReceiptNames.{receipt_has_name}
use Rattle.relying_party.proofs.ReceiptRead.{is_read, none_read}
use Rattle.relying_party.proofs.inclusion.receipt_of.Goals as goal

pub returns-in-Ok-clause-read : goal.returns-in-Ok-clause-read
returns-in-Ok-clause-read c = is_read c.strict_item_is_exact.ensures.given c.args.bytes.now c.in-Ok.receipt c.in-Ok.ensures

pub returns-in-Ok-clause-name : goal.returns-in-Ok-clause-name
returns-in-Ok-clause-name c = receipt_has_name c.in-Ok.ensures.0 c.in-Ok.receipt c.in-Ok.ensures.2

pub returns-in-Err-Cbor-clause-read : goal.returns-in-Err-Cbor-clause-read
returns-in-Err-Cbor-clause-read c =
    none_read c.strict_item_is_exact.ensures.given c.strict_item_is_exact.ensures.spelled c.whole_bytes_have_one_answer.ensures.not_both c.args.bytes.now (Cbor c.in-Err-Cbor.field-0-0)
    (λ e. let bad = e in cc) (λ i. omega (arith, c.type_inv.bytes i)) (rw c.in-Err-Cbor.field-0-is at c.in-Err-Cbor.ensures)

pub returns-in-Err-NotReceipt-clause-read : goal.returns-in-Err-NotReceipt-clause-read
returns-in-Err-NotReceipt-clause-read c =
    none_read c.strict_item_is_exact.ensures.given c.strict_item_is_exact.ensures.spelled c.whole_bytes_have_one_answer.ensures.not_both c.args.bytes.now NotReceipt
    (λ e. let bad = e in cc) (λ i. omega (arith, c.type_inv.bytes i)) (rw c.in-Err-NotReceipt.field-0-is at c.in-Err-NotReceipt.ensures)

pub returns-in-Err-BadProtected-clause-read : goal.returns-in-Err-BadProtected-clause-read
returns-in-Err-BadProtected-clause-read c =
    none_read c.strict_item_is_exact.ensures.given c.strict_item_is_exact.ensures.spelled c.whole_bytes_have_one_answer.ensures.not_both c.args.bytes.now BadProtected
    (λ e. let bad = e in cc) (λ i. omega (arith, c.type_inv.bytes i)) (rw c.in-Err-BadProtected.field-0-is at c.in-Err-BadProtected.ensures)

pub returns-in-Err-BadProof-clause-read : goal.returns-in-Err-BadProof-clause-read
returns-in-Err-BadProof-clause-read c =
    none_read c.strict_item_is_exact.ensures.given c.strict_item_is_exact.ensures.spelled c.whole_bytes_have_one_answer.ensures.not_both c.args.bytes.now BadProof
    (λ e. let bad = e in cc) (λ i. omega (arith, c.type_inv.bytes i)) (rw c.in-Err-BadProof.field-0-is at c.in-Err-BadProof.ensures)
