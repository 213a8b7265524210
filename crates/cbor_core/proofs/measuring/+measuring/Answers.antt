use Rattle.std.proofs.Common.{◌-◌, ◌+◌, ℕ, List, [], length, drop, Option, Some, sym, ap, ◌∙◌, arith}
use Rattle.cbor_core.specs.declared.tree.Item.{Item}
use Rattle.cbor_core.specs.declared.tree.Node.{out-Node}
use Rattle.cbor_core.specs.Encoding.{len_of, sum_len, spell_each, spell_pairs, spell_in, last_text, text_or}
use Rattle.cbor_core.proofs.SpellParts.{spell_in-is}
use Rattle.cbor_core.proofs.LengthLemmas.{sum-none}
use Rattle.cbor_core.proofs.LengthSteps.{sum-fits_again, text_of_len, items-step, items-none, pairs-no_key, pairs-no_order, pairs-step, pairs-none, content-leaf, content-parts}
use Rattle.cbor_core.proofs.measuring.+measuring.Goals as goal

pub item_len-returns : goal.item_len-returns
item_len-returns t c = c.node_len.ensures ∙ ap len_of (sym (spell_in-is c.args.g c.args.room c.args.item.now))

pub content_len-returns-then-room-eq0 : goal.content_len-returns-then-room-eq0
content_len-returns-then-room-eq0 t c =
    let l = out-Node c.args.node.now in
    c.sum.ensures ∙ ap (λ (b : List ℕ). sum_len (Some (length b)) (Some 0)) c.bytes_in.ensures ∙ sym (content-leaf c.args.g c.args.room l c.if-room-eq0.true c.requires)

pub content_len-returns : goal.content_len-returns
content_len-returns t c =
    let l = out-Node c.args.node.now in
    let g = c.args.g in
    let room = c.args.room in
    let part = spell_in g (room - 1) in
    let bytes = ap (λ (b : List ℕ). Some (length b)) c.bytes_in.ensures in
    let items = c.items_len-items.ensures ∙ ap (λ (x : List Item). len_of (spell_each part x)) c.items_in.ensures in
    let pairs = c.pairs_len-pairs.ensures ∙ ap (λ (x : List (Item × Item)). len_of (spell_pairs g part [] x)) c.pairs_in.ensures in
    c.sum-3.ensures ∙ ap (λ (n : Option ℕ). sum_len (Some (length c.bytes_in.result.now)) n) c.sum-2.ensures
    ∙ (λ i. sum_len (bytes i) (sum_len (items i) (pairs i))) ∙ sym (content-parts g room l (omega arith) c.requires)

pub items_len-loop-item-preserved : goal.items_len-loop-item-preserved
items_len-loop-item-preserved t c =
    let part = spell_in c.args.g c.args.room in
    let items = c.args.items.now in
    let i = c.loop-item.item-index in
    let sum_is = c.sum-total.ensures ∙ ap (λ (n : Option ℕ). sum_len c.loop-item.total n) c.item_len.ensures in
    record {
      total = ap (λ (n : Option ℕ). sum_len n (len_of (spell_each part (drop (i + 1) items)))) sum_is ∙ items-step part items i c.item-item.result c.loop-item.total c.loop-item-test.true c.item-item.is ∙ c.loop-item.invariant.total;
      fits = ap (λ (n : Option ℕ). sum_len n (Some 0)) c.sum-total.ensures ∙ sum-fits_again c.loop-item.total c.item_len.result ∙ sym c.sum-total.ensures;
    }

pub items_len-returns : goal.items_len-returns
items_len-returns t c =
    let part = spell_in c.args.g c.args.room in
    sym c.loop-item.invariant.fits ∙ ap (λ (n : Option ℕ). sum_len c.loop-item.total n) (sym (items-none part c.args.items.now c.loop-item.item-index c.loop-item-test.false)) ∙ c.loop-item.invariant.total

pub pairs_len-returns-in_default : goal.pairs_len-returns-in_default
pairs_len-returns-in_default t c =
    let part = spell_in c.args.g c.args.room in
    let none = pairs-no_key c.args.g part c.args.pairs.now c.loop-pair.pair-index c.pair-item.result (last_text c.args.g c.args.room c.loop-pair.last) c.loop-pair-test.true c.pair-item.is (sym c.item_len-key.ensures ∙ c.in_default.is) in
    sym (ap (λ (n : Option ℕ). sum_len c.loop-pair.total n) none ∙ sum-none c.loop-pair.total) ∙ c.loop-pair.invariant.total

pub pairs_len-returns-then-not-may_come : goal.pairs_len-returns-then-not-may_come
pairs_len-returns-then-not-may_come t c =
    let part = spell_in c.args.g c.args.room in
    let some = text_of_len (part c.pair-item.result.0) c.in-Some.field-0 (sym c.item_len-key.ensures ∙ c.in-Some.is) in
    let none = pairs-no_order c.args.g part c.args.pairs.now c.loop-pair.pair-index c.pair-item.result (last_text c.args.g c.args.room c.loop-pair.last) c.loop-pair-test.true c.pair-item.is some (sym (c.may_come.ensures c.loop-pair.invariant.last some) ∙ c.if-not-may_come.true) in
    sym (ap (λ (n : Option ℕ). sum_len c.loop-pair.total n) none ∙ sum-none c.loop-pair.total) ∙ c.loop-pair.invariant.total

pub pairs_len-loop-pair-preserved : goal.pairs_len-loop-pair-preserved
pairs_len-loop-pair-preserved t c =
    let part = spell_in c.args.g c.args.room in
    let pair = c.pair-item.result in
    let some = text_of_len (part pair.0) c.in-Some.field-0 (sym c.item_len-key.ensures ∙ c.in-Some.is) in
    let follows = sym (c.may_come.ensures c.loop-pair.invariant.last some) ∙ c.if-not-may_come.false in
    let sum_is = c.sum-total.ensures ∙ ap (λ (n : Option ℕ). sum_len c.loop-pair.total n) (c.sum.ensures ∙ (λ i. sum_len (c.item_len-key.ensures i) (c.item_len.ensures i))) in
    let rest = len_of (spell_pairs c.args.g part (text_or (part pair.0)) (drop (c.loop-pair.pair-index + 1) c.args.pairs.now)) in
    record {
      total = ap (λ (n : Option ℕ). sum_len n rest) sum_is ∙ pairs-step c.args.g part c.args.pairs.now c.loop-pair.pair-index pair (last_text c.args.g c.args.room c.loop-pair.last) c.loop-pair-test.true c.pair-item.is c.loop-pair.total some follows ∙ c.loop-pair.invariant.total;
      fits = ap (λ (n : Option ℕ). sum_len n (Some 0)) c.sum-total.ensures ∙ sum-fits_again c.loop-pair.total c.sum.result ∙ sym c.sum-total.ensures;
      last = some;
    }

pub pairs_len-returns : goal.pairs_len-returns
pairs_len-returns t c =
    let g = c.args.g in
    let part = spell_in g c.args.room in
    sym c.loop-pair.invariant.fits ∙ ap (λ (n : Option ℕ). sum_len c.loop-pair.total n) (sym (pairs-none g part (last_text g c.args.room c.loop-pair.last) c.args.pairs.now c.loop-pair.pair-index c.loop-pair-test.false)) ∙ c.loop-pair.invariant.total
