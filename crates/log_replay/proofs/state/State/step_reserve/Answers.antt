use Rattle.std.proofs.Common.{Some, sym}
use Rattle.log_replay.specs.Records.{reserve_record}
use Rattle.log_replay.specs.KeptRows.{with_record}
use Rattle.log_replay.specs.StateSeen.{kept_of}
use Rattle.log_replay.proofs.Making.{still_stands}
use Rattle.log_replay.proofs.state.State.step_reserve.Goals as goal

pub add_reserve-requires-clause-made : goal.add_reserve-requires-clause-made
unfolding with_record
add_reserve-requires-clause-made c =
    still_stands c.state_laws.ensures.failing c.state_laws.ensures.added (kept_of c.args.self.now) c.args.body.now (Some (reserve_record c.args.upto)) c.requires (sym c.in-None.ensures.rows) c.args.self.now.made

pub returns-in-None : goal.returns-in-None
unfolding with_record
returns-in-None c = (sym c.in-None.ensures.rows, c.add_reserve.ensures.kept)
