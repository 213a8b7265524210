use Rattle.std.proofs.Common.{◌≤◌, ◌∙◌, ap, length, arith}
use Rattle.std.proofs.lemmas.Str.{is_utf8-from_IsUtf8}
use Rattle.hss_keys.specs.Signing.{hss_public}
use Rattle.scitt_draft.specs.Named.{public_of}
use Rattle.scitt_draft.proofs.Stating.{short_holder}
use Rattle.scitt_draft.proofs.keys.holder_of.Goals as goal

pub returns-clause-short : goal.returns-clause-short
returns-clause-short c =
    let levels = c.args.signer.now.levels in
    let name = c.args.name.now in
    let same = ap length (c.public-key.ensures.value ∙ (λ i. hss_public levels (c.requires.id i) (c.requires.seed i))) in
    let key : length (public_of levels name) ≤ 60 = omega (arith, same, c.whole.ensures) in
    short_holder levels name (is_utf8-from_IsUtf8 name c.utf8.name) c.requires.some c.requires.few key
