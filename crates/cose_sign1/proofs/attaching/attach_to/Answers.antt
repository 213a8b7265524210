use Rattle.std.proofs.Common.{Err, ap, subst, ◌∙◌}
use Rattle.cbor_core.specs.declared.words.Grammar.TheVariants.{Strict}
use Rattle.cbor_core.specs.declared.words.EncodeStop.{EncodeStop}
use Rattle.cbor_core.specs.declared.words.EncodeStop.TheVariants.{NotStrict}
use Rattle.cbor_core.specs.declared.tree.Item.{Item}
use Rattle.cbor_core.specs.Spells.{Spells}
use Rattle.cbor_core.specs.Items.{map_item}
use Rattle.cose_sign1.specs.Message.{Encodes}
use Rattle.cose_sign1.specs.Attached.{attached_entries, message_with, attached_item}
use Rattle.cose_sign1.proofs.AttachLemmas.{attached_is, attached_strict}
use Rattle.cose_sign1.proofs.attaching.attach_to.Goals as goal

pub returns-in-Ok : goal.returns-in-Ok
returns-in-Ok c =
    let v = c.args.v.now in
    let receipt = c.args.receipt.now in
    let item = c.in_ok-unprotected.ensures ∙ ap (λ rs. map_item (attached_entries rs receipt)) c.requires.receipts in
    let spelled : Spells Strict (attached_item v receipt) c.in-Ok.bytes = subst (λ (u : Item). Spells Strict (message_with v u) c.in-Ok.bytes) item c.in-Ok.ensures in
    (spelled, attached_is c.keys_are_compared_as_items.ensures.same c.strict_is_wide.ensures c.requires.message.0 receipt c.in-Ok.bytes v c.requires.message.1 spelled)

pub unreachable-requires : goal.unreachable-requires
unreachable-requires c =
    let v = c.args.v.now in
    let receipt = c.args.receipt.now in
    let k = c.strict_item_by_kind.ensures in
    let l = c.strict_len_by_kind.ensures in
    let item = c.in_ok-unprotected.ensures ∙ ap (λ rs. map_item (attached_entries rs receipt)) c.requires.receipts in
    let fits = attached_strict k.uint k.bytes k.array k.map k.tag k.simple k.uint_text l.uint l.bytes l.array l.map l.tag l.simple c.message_strings_are_short.ensures c.requires.message.0 receipt v c.requires.message.1 c.requires.room c.requires.short in
    let none = subst (λ (stop : EncodeStop). Encodes (message_with v c.in_ok-unprotected.unprotected) (Err stop)) c.in-Err-NotStrict.field-0-is c.in-Err-NotStrict.ensures in
    let none_here = subst (λ (u : Item). Encodes (message_with v u) (Err NotStrict)) item none in
    c.strict_items_are_spelled.ensures.never (attached_item v receipt) fits.0 fits.1 none_here
