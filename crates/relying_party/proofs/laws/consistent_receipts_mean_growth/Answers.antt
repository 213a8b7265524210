use Rattle.relying_party.proofs.GrowthMeaning.{receipts_mean_growth}
use Rattle.relying_party.proofs.laws.consistent_receipts_mean_growth.Goals as goal

pub returns : goal.returns
returns c = receipts_mean_growth c.consistency_laws.ensures.begins
