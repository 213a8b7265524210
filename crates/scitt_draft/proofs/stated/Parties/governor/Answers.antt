use Rattle.std.proofs.Common.{List, ap}
use Rattle.lms_tree.specs.declared.types.Level.{Level}
use Rattle.scitt_draft.specs.Named.{holder_of}
use Rattle.scitt_draft.specs.Stated.{governor}
use Rattle.scitt_draft.proofs.Stating.{ok_is}
use Rattle.scitt_draft.proofs.stated.Parties.governor.Goals as goal

pub returns-clause-holder : goal.returns-clause-holder
returns-clause-holder c =
    ok_is c.holder_of.result _ _ (ap (λ (l : List Level). holder_of l governor) c.self.invariant.0.levels_are) c.holder_of.ensures.holder
