use Rattle.std.proofs.Common.{refl, sym, ap, ◌∙◌}
use Rattle.std.proofs.lemmas.Bool.{false≢true}
use Rattle.cbor_core.specs.declared.tree.Item.{Item}
use Rattle.cbor_core.proofs.SameLemmas.{key_here, key_more, key_end}
use Rattle.cbor_core.proofs.same.has_key.Goals as goal

pub returns-then-same_item : goal.returns-then-same_item
returns-then-same_item c =
    let e = ap (λ (p : Item × Item). p.0) (sym c.pair-item.is) ∙ c.if-same_item.ensures.0 refl in
    sym (key_here c.args.pairs.now c.loop-pair.pair-index c.pair-item.result c.args.item.now c.loop-pair-test.true e) ∙ c.loop-pair.invariant

pub loop-pair-preserved : goal.loop-pair-preserved
loop-pair-preserved c =
    sym (key_more c.args.pairs.now c.loop-pair.pair-index c.pair-item.result c.args.item.now c.loop-pair-test.true (λ e. false≢true (c.if-same_item.ensures.1 (ap (λ (p : Item × Item). p.0) c.pair-item.is ∙ e)))) ∙ c.loop-pair.invariant

pub returns : goal.returns
returns c = sym (key_end c.args.pairs.now c.loop-pair.pair-index c.args.item.now c.loop-pair-test.false) ∙ c.loop-pair.invariant
