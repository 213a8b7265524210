use Rattle.auditor.proofs.Bad.{still_bad}
use Rattle.auditor.proofs.walk.Walk.judge.Goals as goal

pub returns-in-Some-clause-judged : goal.returns-in-Some-clause-judged
returns-in-Some-clause-judged c = λ R knows.
    still_bad c.args.self.now.state c.args.self.now.bad c.in-Some.field-0 R c.args.body.now c.in-Some.is knows.judged
