use Rattle.std.proofs.Common.{length, arith, ap}
use Rattle.cose_sign1.specs.Strings.{head_len}
use Rattle.cose_sign1.specs.Tbs.{signed_of, tbs_text}
use Rattle.cose_sign1.proofs.TbsLemmas.{tbs_is, tbs_length}
use Rattle.cose_sign1.proofs.tbs.to_be_signed_len.Goals as goal

pub returns-clause-exact : goal.returns-clause-exact
returns-clause-exact c =
    let protected = c.args.protected.now in
    let payload = c.args.payload.now in
    (tbs_text (signed_of protected) payload, tbs_is protected payload c.requires.protected_fits c.requires.payload_fits, omega (arith, tbs_length (signed_of protected) payload, c.string_head_len.ensures.value, c.string_head_len-2.ensures.value, ap length c.signed_of-signed.ensures, ap head_len (ap length c.signed_of-signed.ensures)))
