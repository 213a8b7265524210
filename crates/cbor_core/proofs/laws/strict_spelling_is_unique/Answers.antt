use Rattle.cbor_core.proofs.EncodeLaws.{one_strict_spelling}
use Rattle.cbor_core.proofs.laws.strict_spelling_is_unique.Goals as goal

pub returns : goal.returns
returns c = one_strict_spelling
