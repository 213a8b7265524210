use Rattle.turn_lock.proofs.Sitting.{fresh_view}
use Rattle.turn_lock.proofs.lock.seat_of.Goals as goal

pub returns : goal.returns
returns c = fresh_view c.args.badge.table_id c.args.badge.views c.args.weight c.requires.short
