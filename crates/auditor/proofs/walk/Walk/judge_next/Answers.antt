use Rattle.auditor.proofs.Bad.{judged_bad}
use Rattle.log_replay.specs.StateSeen.{kept_of}
use Rattle.auditor.proofs.walk.Walk.judge_next.Goals as goal

pub returns-in-Some-clause-judged : goal.returns-in-Some-clause-judged
returns-in-Some-clause-judged c = λ R knows.
    judged_bad c.args.self.now.state c.args.self.now.bad R c.args.body.now c.args.self.now.number c.in_ok-take_record.field-0 c.in-Some.failing (kept_of c.take_record.new.self) c.requires c.in-Some.is knows.judged knows.number c.in_ok-take_record.ensures.log
