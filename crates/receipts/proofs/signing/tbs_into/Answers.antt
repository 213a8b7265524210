use Rattle.std.proofs.Common.{◌≤◌, ℕ, List, length, take, sym, ap, subst, ◌∙◌, arith}
use Rattle.cbor_core.specs.Limits.{longest_string}
use Rattle.cose_sign1.specs.Tbs.{tbs_len, Tbs}
use Rattle.cose_sign1.specs.OneTbs.{tbs_of}
use Rattle.receipts.proofs.SignedLemmas.{protected_is_text, protected_few, signed_length}
use Rattle.receipts.proofs.signing.tbs_into.Goals as goal

pub to_be_signed_into-requires-clause-room : goal.to_be_signed_into-requires-clause-room
to_be_signed_into-requires-clause-room c =
    c.requires.room
    ∙ sym (signed_length c.args.name.now c.args.kid.now c.args.size c.args.root.now c.name_is_within.ensures c.told-root)
    ∙ (λ i. tbs_len (sym c.put_protected-len.ensures.bytes i) (sym c.as_slice.ensures i))

pub returns-clause-text : goal.returns-clause-text
returns-clause-text c =
    let k = c.strict_item_by_kind.ensures in
    let stack = take c.put_protected-len.result c.put_protected-len.new.buf in
    let own = protected_is_text k.uint_text k.nint_text k.bytes_text k.text_text c.args.name.now c.args.kid.now c.args.size c.name_is_within.ensures in
    let few : length stack ≤ longest_string = subst (λ (s : List ℕ). length s ≤ longest_string) (sym c.put_protected-len.ensures.bytes) (protected_few c.args.name.now c.args.kid.now c.args.size c.name_is_within.ensures) in
    let root : length c.as_slice.result.now ≤ longest_string = omega (arith, ap length c.as_slice.ensures, c.told-root) in
    c.sig_structure_is_one.ensures.is_text stack c.as_slice.result.now c.to_be_signed_into.new.buf few root c.to_be_signed_into.ensures
    ∙ (λ i. tbs_of ((c.put_protected-len.ensures.bytes ∙ sym own) i) (c.as_slice.ensures i))

pub returns-clause-tbs : goal.returns-clause-tbs
returns-clause-tbs c =
    let k = c.strict_item_by_kind.ensures in
    let own = protected_is_text k.uint_text k.nint_text k.bytes_text k.text_text c.args.name.now c.args.kid.now c.args.size c.name_is_within.ensures in
    subst (λ (x : List ℕ × List ℕ). Tbs x.0 x.1 c.to_be_signed_into.new.buf) (λ i. ((c.put_protected-len.ensures.bytes ∙ sym own) i, c.as_slice.ensures i)) c.to_be_signed_into.ensures
