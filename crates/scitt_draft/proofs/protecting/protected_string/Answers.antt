use Rattle.std.proofs.Common.{◌≤◌, ℕ, List, length, Option, Err, ap, subst, arith}
use Rattle.cbor_core.specs.declared.tree.Item.{Item}
use Rattle.cbor_core.specs.declared.words.EncodeStop.{EncodeStop}
use Rattle.cbor_core.specs.declared.words.EncodeStop.TheVariants.{NotStrict}
use Rattle.cbor_core.specs.Encoding.{text_or, Encoded}
use Rattle.scitt_draft.specs.Drafts.{claimed, protected_item}
use Rattle.scitt_draft.proofs.Protected.{protected_strict, protected_short, text-length}
use Rattle.scitt_draft.proofs.protecting.protected_string.Goals as goal

pub returns-in-Ok-clause-short : goal.returns-in-Ok-clause-short
returns-in-Ok-clause-short c =
    let k = c.strict_item_by_kind.ensures in
    let l = c.strict_len_by_kind.ensures in
    let own = protected_item (claimed c.args.claims.now) c.as_slice.result.now in
    let few : length c.as_slice.result.now ≤ 64 = omega (arith, ap length c.as_slice.ensures, c.told-kid) in
    let strict = protected_strict k.uint k.nint k.bytes k.text k.map k.uint_text (claimed c.args.claims.now) c.as_slice.result.now c.claims_are_within.ensures few in
    let small = protected_short l.uint l.nint l.bytes l.text l.map (claimed c.args.claims.now) c.as_slice.result.now c.claims_are_within.ensures few in
    let spelled = rw c.in_ok-item.ensures at c.in-Ok.ensures in
    let is = ap (λ (o : Option (List ℕ)). length (text_or o)) (c.strict_text_is_exact.ensures.given own c.in-Ok.bytes spelled) in
    omega (arith, is, text-length c.strict_items_are_spelled.ensures.spelled c.strict_text_is_exact.ensures.given own strict, small)

pub unreachable-requires : goal.unreachable-requires
unreachable-requires c =
    let k = c.strict_item_by_kind.ensures in
    let l = c.strict_len_by_kind.ensures in
    let own = protected_item (claimed c.args.claims.now) c.as_slice.result.now in
    let few : length c.as_slice.result.now ≤ 64 = omega (arith, ap length c.as_slice.ensures, c.told-kid) in
    let strict = protected_strict k.uint k.nint k.bytes k.text k.map k.uint_text (claimed c.args.claims.now) c.as_slice.result.now c.claims_are_within.ensures few in
    let small = protected_short l.uint l.nint l.bytes l.text l.map (claimed c.args.claims.now) c.as_slice.result.now c.claims_are_within.ensures few in
    c.strict_items_are_spelled.ensures.never own strict (omega (arith, small)) (subst (λ (i : Item). Encoded i (Err NotStrict)) c.in_ok-item.ensures (subst (λ (e : EncodeStop). Encoded c.in_ok-item.item (Err e)) c.in-Err-NotStrict.field-0-is c.in-Err-NotStrict.ensures))
