use Rattle.relying_party.proofs.EntryMeaning.{receipts_mean}
use Rattle.relying_party.proofs.laws.accepted_receipts_mean_entries.Goals as goal

pub returns : goal.returns
returns c = receipts_mean c.inclusion_laws.ensures.longer
