use Rattle.scitt_draft.specs.Named.{issuer_levels}
use Rattle.scitt_draft.specs.Stated.{issuer}
use Rattle.scitt_draft.proofs.Stating.{is_key}
use Rattle.scitt_draft.proofs.stated.issuer.Goals as goal

pub returns : goal.returns
returns c =
    is_key c.signer_of.result c.issuer_levels.result issuer_levels c.issuer_name.result.now (issuer c.args.n) c.issuer_levels.ensures c.issuer_name.ensures.name c.signer_of.ensures
