use Rattle.std.proofs.Common.{subst}
use Rattle.auditor.specs.declared.walk.End.{End}
use Rattle.auditor.specs.Walks.{Ends}
use Rattle.auditor.proofs.reports.since_of.Goals as goal

pub returns-in-Cut : goal.returns-in-Cut
returns-in-Cut c = λ bytes found.
    c.cut_since.ensures bytes found.0 c.args.size c.args.root.now found.1 (subst (λ (e : End). Ends bytes found.0 e) c.in-Cut.is found.2)
