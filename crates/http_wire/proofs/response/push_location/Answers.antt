use Rattle.std.proofs.Common.{refl}
use Rattle.http_wire.specs.Answering.{location_line}
use Rattle.http_wire.proofs.response.push_location.Goals as goal

pub returns-in-Some-clause-bytes : goal.returns-in-Some-clause-bytes
unfolding location_line
returns-in-Some-clause-bytes c = rw (c.in-Some.is, c.push_line.ensures.bytes, c.format.ensures.text) refl
