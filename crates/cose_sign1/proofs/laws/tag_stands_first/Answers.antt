use Rattle.cose_sign1.proofs.TagLemmas.{tag_first}
use Rattle.cose_sign1.proofs.laws.tag_stands_first.Goals as goal

pub returns : goal.returns
returns c = tag_first
