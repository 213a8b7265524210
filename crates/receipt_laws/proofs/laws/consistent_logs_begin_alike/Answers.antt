use Rattle.receipt_laws.proofs.Fronts.{of_the_logs}
use Rattle.receipt_laws.proofs.laws.consistent_logs_begin_alike.Goals as goal

pub returns : goal.returns
returns c = of_the_logs c.growth_laws.ensures.leaves c.consistent_receipts_mean_growth.ensures
