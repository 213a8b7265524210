use Rattle.cbor_core.proofs.DecodeLaws.{prefix_free}
use Rattle.cbor_core.proofs.laws.spellings_are_prefix_free.Goals as goal

pub returns : goal.returns
returns c = prefix_free
