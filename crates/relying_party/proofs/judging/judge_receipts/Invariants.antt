use Rattle.std.proofs.Common.{◌≡◌, map, take}
use Rattle.relying_party.specs.Accepts.{receipt_result}
use Rattle.relying_party.proofs.judging.judge_receipts.Given as goal

abbrev pub invariant-loop-receipt : goal.invariant-loop-receipt
invariant-loop-receipt l = l.results ≡ map (receipt_result l.trust l.logged) (take l.receipt-index l.receipts)
