-- The laws of a receipt within the limits, from those of its items.
use Rattle.std.proofs.Common.{◌≤◌, length, Result, ap, ◌∙◌, arith}
use Rattle.std.specs.Prelude.{option_and_then}
use Rattle.std.specs.Result.{result_ok}
use Rattle.cbor_core.specs.declared.tree.Item.{Item}
use Rattle.cbor_core.specs.Decoding.{SpelledIsItem}
use Rattle.cbor_core.specs.Exact.{strict_text, SpelledIsText}
use Rattle.cbor_core.specs.Fitting.{StrictIsSpelled, StrictReadsAgain, UintFits, NintFits, BytesFit, TextFits, ArrayFits, MapFits, TagFits, SimpleFits, UintText, NintText, UintLength, NintLength, BytesLength, TextLength, ArrayLength, MapLength, TagLength, SimpleLength}
use Rattle.receipts.specs.declared.receipt.Receipt.{Receipt}
use Rattle.receipts.specs.declared.receipt.ReceiptStop.{ReceiptStop}
use Rattle.receipts.specs.Form.{receipt_in, receipt_of}
use Rattle.receipts.specs.Written.{protected_item, proof_inner, receipt_item}
use Rattle.receipts.specs.Laws.{ProtectedIsStrict, ProofIsStrict, ReceiptIsStrict, ReceiptIsRead, BytesAreReceipt}
use Rattle.receipts.proofs.Shaped.{text-length, protected_strict, inner_strict, whole_strict, protected_short, inner_short, whole_short}
use Rattle.receipts.proofs.Again.{receipt_reads}

module _ (uint : UintFits) (nint : NintFits) (bytes : BytesFit) (text : TextFits) (array : ArrayFits) (pairs : MapFits) (tag : TagFits) (simple : SimpleFits) (uint_text : UintText) (nint_text : NintText)
    (uint_len : UintLength) (nint_len : NintLength) (bytes_len : BytesLength) (text_len : TextLength) (array_len : ArrayLength) (pairs_len : MapLength) (tag_len : TagLength) (simple_len : SimpleLength) where
  pub protected_is_strict : ProtectedIsStrict
  protected_is_strict name kid size fits =
      (protected_strict uint nint bytes text array pairs tag simple uint_text nint_text name kid size fits, protected_short uint_len nint_len bytes_len text_len array_len pairs_len tag_len simple_len name kid size fits.most fits.digest)

  pub proof_is_strict : ProofIsStrict
  proof_is_strict proof fits = (inner_strict uint nint bytes text array pairs tag simple uint_text nint_text proof fits, inner_short uint_len nint_len bytes_len text_len array_len pairs_len tag_len simple_len proof fits)

  pub receipt_is_strict : StrictIsSpelled → SpelledIsText → ReceiptIsStrict
  receipt_is_strict spelled given r fits few =
      let p = protected_is_strict r.name r.kid r.size fits.0 in
      let q = proof_is_strict r.proof fits.1 in
      let outer : length (strict_text (protected_item r.name r.kid r.size)) ≤ 300 = omega (arith, text-length spelled given (protected_item r.name r.kid r.size) p.0, p.1) in
      let inner : length (strict_text (proof_inner r.proof)) ≤ 2000 = omega (arith, text-length spelled given (proof_inner r.proof) q.0, q.1) in
      (whole_strict uint nint bytes text array pairs tag simple uint_text nint_text r fits (omega arith) (omega arith) few, whole_short uint_len nint_len bytes_len text_len array_len pairs_len tag_len simple_len r outer inner few)

  pub receipt_is_read : StrictReadsAgain → ReceiptIsRead
  receipt_is_read again r fits =
      receipt_reads r fits (again (protected_item r.name r.kid r.size) (protected_is_strict r.name r.kid r.size fits.0).0) (again (proof_inner r.proof) (proof_is_strict r.proof fits.1).0)

  pub bytes_are_receipt : StrictReadsAgain → SpelledIsItem → BytesAreReceipt
  unfolding receipt_of
  bytes_are_receipt again given r b fits s =
      ap (option_and_then (λ (item : Item). result_ok (receipt_in item))) (given b (receipt_item r) s)
      ∙ ap (λ (x : Result Receipt ReceiptStop). result_ok x) (receipt_is_read again r fits)
