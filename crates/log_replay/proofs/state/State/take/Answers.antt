use Rattle.std.proofs.Common.{◌∙◌, Some, sym, ap, refl}
use Rattle.log_replay.specs.KeptRows.{failing_kept}
use Rattle.log_replay.specs.StateSeen.{kept_of}
use Rattle.log_replay.proofs.Batching.{unread}
use Rattle.log_replay.proofs.state.State.take.Goals as goal

pub returns-in-None-clause-ok : goal.returns-in-None-clause-ok
returns-in-None-clause-ok c =
    let K = kept_of c.args.self.now in
    let read = rw c.in-None.is at c.in_ok-record_of.ensures in
    (ap (failing_kept K) (sym read) ∙ unread K.header K.policy K ∙ ap Some (sym c.by.ensures), refl)
