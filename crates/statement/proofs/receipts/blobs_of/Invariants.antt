use Rattle.std.proofs.Common.{◌≡◌, take}
use Rattle.statement.specs.Claims.{blobs_of}
use Rattle.statement.proofs.receipts.blobs_of.Given as goal

abbrev pub invariant-loop-item : goal.invariant-loop-item
invariant-loop-item l = l.blobs ≡ blobs_of (take l.item-index l.items)
