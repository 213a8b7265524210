use Rattle.std.proofs.Common.{◌≡◌, List, length, Err, ap, subst, ◌∙◌, arith}
use Rattle.std.proofs.lemmas.List.{length-map}
use Rattle.cbor_core.specs.declared.words.Grammar.TheVariants.{Strict}
use Rattle.cbor_core.specs.declared.words.EncodeStop.{EncodeStop}
use Rattle.cbor_core.specs.declared.tree.Item.{Item}
use Rattle.cbor_core.specs.Spells.{Spells}
use Rattle.cbor_core.specs.Encoding.{Encoded}
use Rattle.cbor_core.specs.Items.{array_item}
use Rattle.cose_sign1.specs.KeySet.{key_item}
use Rattle.cose_sign1.proofs.KeySetLemmas.{set_strict, set_short}
use Rattle.cose_sign1.proofs.keys.key_set.Goals as goal

pub returns-in-Ok : goal.returns-in-Ok
returns-in-Ok c = subst (λ (items : List Item). Spells Strict (array_item items) c.in-Ok.bytes) c.in_ok-items.ensures.values c.in-Ok.ensures

pub unreachable-requires : goal.unreachable-requires
unreachable-requires c =
    let items = c.in_ok-items.items in
    let are = c.in_ok-items.ensures in
    let count : length items ≡ length c.args.keys.now = ap length are.values ∙ length-map c.args.keys.now key_item in
    c.strict_items_are_spelled.ensures.never (array_item items) (set_strict c.strict_item_by_kind.ensures.array items (omega (arith, count)) are.strict) (set_short c.strict_len_by_kind.ensures.array items (omega (arith, are.short)))
    (subst (λ (stop : EncodeStop). Encoded (array_item items) (Err stop)) c.in-Err-NotStrict.field-0-is c.in-Err-NotStrict.ensures)
