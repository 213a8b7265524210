use Rattle.cbor_core.proofs.KeyLaws.{same_is_equal, key_is_among}
use Rattle.cbor_core.proofs.laws.keys_are_compared_as_items.Goals as goal

pub returns-clause-same : goal.returns-clause-same
returns-clause-same c = same_is_equal

pub returns-clause-key : goal.returns-clause-key
returns-clause-key c = key_is_among
