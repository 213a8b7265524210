use Rattle.std.proofs.Common.{◌<◌, ap, arith}
use Rattle.hss_keys.specs.Levels.{capacity}
use Rattle.scitt_draft.proofs.Stating.{ok_is, statement_is, issuer_signs}
use Rattle.scitt_draft.proofs.stated.numbered.Goals as goal

pub make_statement-requires-clause-below : goal.make_statement-requires-clause-below
make_statement-requires-clause-below c =
    omega (arith, ap capacity c.requires.key.levels_are, issuer_signs, c.requires.few)

pub returns-clause-statement : goal.returns-clause-statement
returns-clause-statement c =
    ok_is c.make_statement.result _ _ (statement_is c.args.signer.now c.from.result _ _ c.args.j c.requires.key (omega arith) c.claims_of-claims.ensures.claims cc) c.make_statement.ensures.statement
