use Rattle.std.proofs.Common.{◌∙◌}
use Rattle.statement.specs.Said.{said_of}
use Rattle.log_replay.specs.StateSeen.{kept_of}
use Rattle.log_replay.proofs.state.State.judge.Goals as goal

pub returns-clause-judged : goal.returns-clause-judged
returns-clause-judged c R h was head =
    let s = said_of c.args.checked.now.statement in
    let K = kept_of c.args.self.now in
    c.judged-judgement.ensures ∙ c.state_laws.ensures.judge K R h c.in-Some.policy s c.args.moment was head c.in-Some.is
