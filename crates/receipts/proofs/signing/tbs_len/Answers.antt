use Rattle.std.proofs.Common.{List, ℕ, ap, ◌∙◌, arith}
use Rattle.cbor_core.specs.Encoding.{size_of, head_size}
use Rattle.cbor_core.specs.Exact.{strict_text}
use Rattle.cose_sign1.specs.Tbs.{tbs_len}
use Rattle.receipts.specs.Written.{protected_item}
use Rattle.receipts.proofs.SignedLemmas.{protected_is_text, signed_length}
use Rattle.receipts.proofs.signing.tbs_len.Goals as goal

pub returns-clause-exact : goal.returns-clause-exact
returns-clause-exact c = λ kid root fits len.
    let k = c.strict_item_by_kind.ensures in
    c.sig_structure_is_one.ensures.len (strict_text (protected_item c.args.name.now kid c.args.size)) root
    ∙ ap (λ (p : List ℕ). tbs_len p root) (protected_is_text k.uint_text k.nint_text k.bytes_text k.text_text c.args.name.now kid c.args.size fits)
    ∙ signed_length c.args.name.now kid c.args.size root fits len
    ∙ omega (
      arith,
      c.head_len.ensures.value,
      c.head_len-2.ensures.value,
      c.len.ensures,
      c.len-2.ensures,
      ap (λ (n : ℕ). head_size (size_of n)) c.len.ensures,
      ap (λ (n : ℕ). head_size (size_of n)) c.from.ensures,
    )
