use Rattle.cbor_core.proofs.DecodeLaws.{item_is_spelled, spelled_is_item}
use Rattle.cbor_core.proofs.laws.strict_item_is_exact.Goals as goal

pub returns-clause-spelled : goal.returns-clause-spelled
returns-clause-spelled c = item_is_spelled

pub returns-clause-given : goal.returns-clause-given
returns-clause-given c = spelled_is_item
