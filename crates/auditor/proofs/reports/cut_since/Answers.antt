use Rattle.std.proofs.Common.{inr}
use Rattle.auditor.proofs.Saying.{says_bad}
use Rattle.auditor.proofs.reports.cut_since.Goals as goal

pub returns-in-Some : goal.returns-in-Some
returns-in-Some c = λ bytes R size root knows cut.
    rw c.bad.ensures (says_bad bytes R c.args.walk.now c.in-Some.first c.in-Some.is knows (inr (c.args.at, cut)))
