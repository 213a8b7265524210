use Rattle.http_wire.proofs.Finding.{found_however_cut, one_request}
use Rattle.http_wire.proofs.Deciding.{refused_however_cut, cut_in_body, ends_at_nothing, ends_nowhere_else}
use Rattle.http_wire.proofs.Feeds.{too_many_are_counted}
use Rattle.http_wire.proofs.laws.request_laws.Goals as goal

pub returns : goal.returns
returns c = record { found = found_however_cut; one = one_request; refused = refused_however_cut; cut = cut_in_body; ended = (ends_at_nothing, ends_nowhere_else); counted = too_many_are_counted }
