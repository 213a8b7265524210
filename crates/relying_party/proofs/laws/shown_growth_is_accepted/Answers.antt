use Rattle.relying_party.proofs.Accepting.{grown_consistent}
use Rattle.relying_party.proofs.laws.shown_growth_is_accepted.Goals as goal

pub returns : goal.returns
returns c = grown_consistent c.proof_laws.ensures.joins
