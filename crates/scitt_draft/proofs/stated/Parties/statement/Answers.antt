use Rattle.std.proofs.Common.{ℕ, sym, subst}
use Rattle.hss_keys.specs.Signers.{SignerKey}
use Rattle.scitt_draft.specs.Named.{IsKeyOf, issuer_levels}
use Rattle.scitt_draft.specs.Stated.{issuer}
use Rattle.scitt_draft.proofs.Stating.{key_from, key_to}
use Rattle.scitt_draft.proofs.stated.Parties.statement.Goals as goal

pub numbered-requires-clause-key : goal.numbered-requires-clause-key
numbered-requires-clause-key c = key_from _ _ c.self.inside.zero c.in-0.is c.self.invariant.1

pub invariant_of-self : goal.invariant_of-self
invariant_of-self c = (c.self.invariant.0, key_to _ _ c.numbered.new.signer c.in-0.is c.numbered.ensures.key, c.self.invariant.2, c.self.invariant.3)

pub numbered-requires-in-1-clause-key : goal.numbered-requires-in-1-clause-key
numbered-requires-in-1-clause-key c = key_from _ _ c.self.inside.one c.in-1.is c.self.invariant.2

pub invariant_of-self-in-1 : goal.invariant_of-self-in-1
invariant_of-self-in-1 c = (c.self.invariant.0, c.self.invariant.1, key_to _ _ c.numbered-in-1.new.signer c.in-1.is c.numbered-in-1.ensures.key, c.self.invariant.3)

pub numbered-requires-in-2-clause-key : goal.numbered-requires-in-2-clause-key
numbered-requires-in-2-clause-key c = key_from _ _ c.self.inside.two c.in-2.is c.self.invariant.3

pub invariant_of-self-in-2 : goal.invariant_of-self-in-2
invariant_of-self-in-2 c = (c.self.invariant.0, c.self.invariant.1, c.self.invariant.2, key_to _ _ c.numbered-in-2.new.signer c.in-2.is c.numbered-in-2.ensures.key)
