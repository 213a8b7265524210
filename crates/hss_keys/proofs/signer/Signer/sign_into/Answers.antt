-- What is written is the signature of the definition, which verifies and has its index.
use Rattle.std.proofs.Common.{◌≡◌, ◌<◌, ◌∙◌, ap, sym, subst}
use Rattle.hss_keys.specs.Levels.{capacity}
use Rattle.hss_keys.specs.Signing.{hss_public, hss_sig}
use Rattle.hss_keys.specs.Signers.{SignerKey}
use Rattle.hss_keys.specs.Verifies.{FlatIndex, HssVerifies}
use Rattle.hss_keys.proofs.signer.Signer.sign_into.Goals as goal

pub returns : goal.returns
returns c =
    let s = c.self.inside in
    let is = c.self.invariant in
    let view = c.self.view_is in
    let index = c.args.index in
    let msg = c.args.msg.now in
    let new = c.write_signature.new.buf in
    let prepared : index ≡ s.index = c.requires.prepared ∙ sym (ap (λ (k : SignerKey). k.prepared) view) in
    let below : index < capacity s.levels = rw prepared is.below in
    let written : new ≡ hss_sig s.levels s.top.id s.top.seed index msg = rw c.as_slice.ensures.value at c.write_signature.ensures in
    let sound : HssVerifies (hss_public s.levels s.top.id s.top.seed) new msg = rw written (c.hss_law.ensures.verifies s.levels s.top.id s.top.seed index msg is.valid is.named below) in
    let spelled : FlatIndex s.levels new index = rw written (c.hss_law.ensures.index s.levels s.top.id s.top.seed index msg is.valid is.named below) in
    record {
      written = subst (λ (k : SignerKey). new ≡ hss_sig k.levels k.id k.seed index msg) view written;
      verifies = subst (λ (k : SignerKey). HssVerifies (hss_public k.levels k.id k.seed) new msg) view sound;
      index = subst (λ (k : SignerKey). FlatIndex k.levels new index) view spelled;
    }
