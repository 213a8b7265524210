use Rattle.receipt_laws.proofs.Grown.{own_consistency}
use Rattle.receipt_laws.proofs.laws.own_consistency_is_accepted.Goals as goal

pub returns : goal.returns
returns c = own_consistency c.shown_growth_is_accepted.ensures c.growth_laws.ensures.leaves c.sizes_have_consistency_receipts.ensures
