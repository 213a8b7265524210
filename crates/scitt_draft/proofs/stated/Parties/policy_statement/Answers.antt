use Rattle.std.proofs.Common.{◌<◌, ap, ◌∙◌, arith}
use Rattle.hss_keys.specs.Levels.{capacity}
use Rattle.scitt_draft.proofs.Stating.{ok_is, policy_is, governor_signs}
use Rattle.scitt_draft.proofs.stated.Parties.policy_statement.Goals as goal

pub make_statement-requires-clause-below : goal.make_statement-requires-clause-below
make_statement-requires-clause-below c = omega (arith, ap capacity c.self.invariant.0.levels_are, governor_signs)

pub returns-clause-statement : goal.returns-clause-statement
returns-clause-statement c =
    ok_is c.make_statement.result _ _ (policy_is c.self.inside.governor _ _ c.self.invariant.0 c.policy_claims-claims.ensures.claims (c.as_slice.ensures ∙ c.in_ok-payload.ensures.text)) c.make_statement.ensures.statement
