use Rattle.statement.proofs.BlobLemmas.{blobs_more}
use Rattle.statement.proofs.receipts.blobs_of.Goals as goal

pub loop-item-preserved : goal.loop-item-preserved
loop-item-preserved c =
    rw c.in_ok-push.ensures.ok (blobs_more c.args.items.now c.loop-item.item-index c.item-item.result c.in_ok-blob.field-0 c.loop-item.blobs c.loop-item-test.true c.item-item.is c.in_ok-blob.ensures c.loop-item.invariant)
