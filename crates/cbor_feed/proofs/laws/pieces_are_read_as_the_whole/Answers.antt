use Rattle.cbor_feed.proofs.PieceLaws.{as_the_whole, ends_as_the_whole}
use Rattle.cbor_feed.proofs.laws.pieces_are_read_as_the_whole.Goals as goal

pub returns-clause-answer : goal.returns-clause-answer
returns-clause-answer c = as_the_whole

pub returns-clause-end : goal.returns-clause-end
returns-clause-end c = ends_as_the_whole
