use Rattle.std.proofs.Common.{◌≡◌, take, map}
use Rattle.cbor_core.specs.Items.{bytes_item}
use Rattle.receipts.proofs.items.hashes.Given as goal

abbrev pub invariant-loop-hash : goal.invariant-loop-hash
invariant-loop-hash l = l.items ≡ map bytes_item (take l.hash-index l.path)
