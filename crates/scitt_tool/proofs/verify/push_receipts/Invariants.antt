use Rattle.std.proofs.Common.{◌≡◌, ◌++◌, drop}
use Rattle.std.specs.String.{string_bytes}
use Rattle.scitt_tool.specs.Verify.{receipt_lines}
use Rattle.scitt_tool.proofs.verify.push_receipts.Given as goal

abbrev pub invariant-loop-receipt : goal.invariant-loop-receipt
invariant-loop-receipt l =
    (l.number ≡ l.receipt-index)
    × (string_bytes l.out ++ receipt_lines l.receipt-index (drop l.receipt-index l.receipts) ≡ string_bytes l.fn.out ++ receipt_lines 0 l.receipts)
