use Rattle.std.proofs.Common.{◌≡◌, [], drop}
use Rattle.receipts.specs.Form.{hashes_onto}
use Rattle.receipts.proofs.reading.hashes.Given as goal

abbrev pub invariant-loop-item : goal.invariant-loop-item
invariant-loop-item l = hashes_onto l.path (drop l.item-index l.items) ≡ hashes_onto [] l.items
