use Rattle.receipts.proofs.Answering.{answered_by}
use Rattle.receipts.proofs.decoding.decode.Goals as goal

pub returns : goal.returns
returns c = answered_by c.args.bytes.now c.in_ok-item.item c.receipt_of.result c.in_ok-item.ensures c.receipt_of.ensures
