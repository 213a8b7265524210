use Rattle.std.proofs.Common.{length, arith}
use Rattle.cbor_core.proofs.EncodeLaws.{room_for, encoded_into}
use Rattle.cbor_core.proofs.encoding.encode_into.Goals as goal

pub put_item-end-requires : goal.put_item-end-requires
put_item-end-requires c = room_for c.args.item.now (length c.args.buf.now) c.requires

pub returns : goal.returns
returns c =
    encoded_into c.args.item.now c.args.buf.now c.put_item-end.new.out c.put_item-end.result c.requires (omega arith) c.put_item-end.ensures
