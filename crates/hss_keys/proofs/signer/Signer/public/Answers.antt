use Rattle.std.proofs.Common.{◌≡◌, arith, subst}
use Rattle.std.proofs.lemmas.Grind.{common_steps}
use Rattle.hss_keys.specs.Keys.{NamesLevels}
use Rattle.hss_keys.specs.Signing.{hss_public}
use Rattle.hss_keys.specs.Signers.{SignerKey}
use Rattle.hss_keys.proofs.signer.Signer.public.Goals as goal

pub returns-clause-names : goal.returns-clause-names
returns-clause-names c =
    let s = c.self.inside in
    let is = c.self.invariant in
    let key = c.args.self.now in
    let value : c.put.new.buf ≡ hss_public key.levels key.id key.seed = grind (arith, common_steps) in
    let names = c.hss_law.ensures.names s.levels s.top.id s.top.seed is.valid is.named in
    rw value (subst (λ (k : SignerKey). NamesLevels k.levels (hss_public k.levels k.id k.seed)) c.self.view_is names)
