use Rattle.cbor_core.proofs.EncodeLaws.{has_length}
use Rattle.cbor_core.proofs.encoding.encoded_len.Goals as goal

pub returns : goal.returns
returns c = has_length c.args.item.now c.item_len.result c.item_len.ensures
