use Rattle.http_wire.proofs.Stopping.{takes_of}
use Rattle.http_wire.proofs.wire.Wire.next_request.Goals as goal

pub returns-in-Err-clause-takes : goal.returns-in-Err-clause-takes
returns-in-Err-clause-takes g c = λ none. rw (c.repeat-in-Err.ensures, ← c.self.view_is) (takes_of _ _ _ _ c.in-Err.why c.in-Err.ensures.stops)
