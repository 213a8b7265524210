use Rattle.std.proofs.Common.{refl}
use Rattle.scitt_draft.specs.Named.{governor_levels}
use Rattle.scitt_draft.specs.Stated.{governor}
use Rattle.scitt_draft.proofs.Stating.{made_key}
use Rattle.scitt_draft.proofs.stated.Parties.new.Goals as goal

pub invariant_of-result : goal.invariant_of-result
invariant_of-result c = (
  made_key c.in_ok-signer_of.field-0 c.governor_levels.result governor_levels governor governor c.governor_levels.ensures refl c.in_ok-signer_of.ensures,
  c.in_ok-issuer.ensures,
  c.in_ok-issuer-2.ensures,
  c.in_ok-issuer-3.ensures,
)
