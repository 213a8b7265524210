use Rattle.cbor_core.proofs.DecodeLaws.{round_trip}
use Rattle.cbor_core.proofs.laws.spelled_is_decoded.Goals as goal

pub returns : goal.returns
returns c = round_trip
