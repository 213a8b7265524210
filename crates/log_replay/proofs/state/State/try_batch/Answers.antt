use Rattle.std.proofs.Common.{◌∙◌, Some, sym, ap}
use Rattle.log_replay.specs.StateSeen.{kept_of}
use Rattle.log_replay.proofs.Batching.{before_header}
use Rattle.log_replay.proofs.state.State.try_batch.Goals as goal

pub returns-in-None : goal.returns-in-None
returns-in-None c =
    let K = kept_of c.args.self.now in
    ap Some c.by.ensures ∙ sym (before_header K.header K.policy K c.args.batch.now c.args.leaf.now c.in-None.is c.requires.one)
