use Rattle.std.proofs.Common.{◌≡◌, ℕ, ◌≤◌, true, List, sym, ap, subst, ◌∙◌}
use Rattle.cbor_core.specs.declared.tree.Item.{Item}
use Rattle.cbor_core.specs.Items.{map_item}
use Rattle.cbor_core.specs.Fitting.{is_strict_item, strict_len}
use Rattle.cose_sign1.specs.KeySet.{key_entries}
use Rattle.cose_sign1.proofs.KeySetLemmas.{key_strict, key_short}
use Rattle.cose_sign1.proofs.keys.key_item.Goals as goal

pub returns : goal.returns
returns c =
    let k = c.strict_item_by_kind.ensures in
    let l = c.strict_len_by_kind.ensures in
    let kid = c.kid_of-kid.result in
    let key = c.args.key.now in
    let e = c.kid_of-kid.ensures in
    record {
      value = c.in_ok-item.ensures ∙ ap (λ (d : List ℕ). map_item (key_entries d key)) e.value;
      strict = subst (λ (x : Item). is_strict_item 15 x ≡ true) (sym c.in_ok-item.ensures) (key_strict k.uint k.nint k.bytes k.map k.uint_text k.nint_text kid key e.len e.key);
      short = subst (λ (x : Item). strict_len 15 x ≤ 200) (sym c.in_ok-item.ensures) (key_short l.uint l.nint l.bytes l.map kid key e.len e.key);
    }
