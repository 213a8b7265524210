use Rattle.std.proofs.Common.{inr, refl}
use Rattle.cbor_core.proofs.decoding.decode_all.Goals as goal

pub returns-then-len-bytes : goal.returns-then-len-bytes
returns-then-len-bytes c = inr (refl, c.if-len-bytes.true, (c.in-Ok.item, c.in-Ok.ensures.1))
