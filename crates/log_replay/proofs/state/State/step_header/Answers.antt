use Rattle.std.proofs.Common.{refl, ◌∙◌, ap, sym, Some}
use Rattle.log_replay.specs.Seen.{heading_seen}
use Rattle.log_replay.specs.StateSeen.{kept_of}
use Rattle.log_replay.proofs.Making.{order}
use Rattle.log_replay.proofs.state.State.step_header.Goals as goal

pub returns-in-Some-clause-ok : goal.returns-in-Some-clause-ok
returns-in-Some-clause-ok c =
    let K = kept_of c.args.self.now in
    (order K.header K.policy K c.in-Some.field-0 (heading_seen c.args.heading) c.in-Some.is c.args.self.now.ruled ∙ ap Some (sym c.by.ensures), refl)
