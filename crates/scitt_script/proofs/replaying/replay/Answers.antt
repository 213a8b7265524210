use Rattle.scitt_script.specs.Replays.{header_in}
use Rattle.scitt_script.proofs.Whole.{refused_by, replayed_by}
use Rattle.scitt_script.proofs.replaying.replay.Goals as goal

pub returns-clause-replayed : goal.returns-clause-replayed
returns-clause-replayed c =
    replayed_by c.args.script c.in_ok-log.log.standing c.serve_all.result c.in_ok-log.ensures.begun c.in_ok-log.ensures.limits c.serve_all.ensures.session

pub returns-clause-refused : goal.returns-clause-refused
returns-clause-refused c = refused_by (header_in c.args.script) c.serve_all.result c.in_ok-log.ensures.limits c.serve_all.ensures.memory
