use Rattle.std.proofs.Common.{ap, sym}
use Rattle.scitt_draft.specs.Stated.{subject}
use Rattle.scitt_draft.proofs.stated.subject_name.Goals as goal

pub returns-in-0-clause-name : goal.returns-in-0-clause-name
returns-in-0-clause-name c = ap subject (sym c.in-0.is)

pub returns-in-1-clause-name : goal.returns-in-1-clause-name
returns-in-1-clause-name c = ap subject (sym c.in-1.is)

pub returns-in-2-clause-name : goal.returns-in-2-clause-name
returns-in-2-clause-name c = ap subject (sym c.in-2.is)

pub returns-in-3-clause-name : goal.returns-in-3-clause-name
returns-in-3-clause-name c = ap subject (sym c.in-3.is)

pub returns-in-4-clause-name : goal.returns-in-4-clause-name
returns-in-4-clause-name c = ap subject (sym c.in-4.is)

pub returns-in-5-clause-name : goal.returns-in-5-clause-name
returns-in-5-clause-name c = ap subject (sym c.in-5.is)

pub returns-in-6-clause-name : goal.returns-in-6-clause-name
returns-in-6-clause-name c = ap subject (sym c.in-6.is)
