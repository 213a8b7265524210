use Rattle.hss_keys.proofs.CapacityLaws.{IsLevels-small}
use Rattle.hss_keys.proofs.levels.Levels.as_slice.Goals as goal

pub returns-clause-small : goal.returns-clause-small
returns-clause-small c = rw (← c.self.view_is) (IsLevels-small _ c.self.invariant.1)
