use Rattle.std.proofs.Common.{ap, sym}
use Rattle.scitt_draft.specs.Stated.{issuer}
use Rattle.scitt_draft.proofs.stated.issuer_name.Goals as goal

pub returns-in-0-clause-name : goal.returns-in-0-clause-name
returns-in-0-clause-name c = ap issuer (sym c.in-0.is)

pub returns-in-1-clause-name : goal.returns-in-1-clause-name
returns-in-1-clause-name c = ap issuer (sym c.in-1.is)

pub returns-in-2-clause-name : goal.returns-in-2-clause-name
returns-in-2-clause-name c = ap issuer (sym c.in-2.is)
