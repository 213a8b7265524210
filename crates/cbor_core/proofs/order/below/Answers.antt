use Rattle.std.proofs.Common.{◌≤◌, ◌⊎◌, inl, inr, length, sym, ◌∙◌, arith}
use Rattle.std.proofs.lemmas.Bool.{cases_lt}
use Rattle.cbor_core.proofs.OrderLemmas.{below_here, below_more, below_end}
use Rattle.cbor_core.proofs.order.below.Goals as goal

pub returns-then-a-i : goal.returns-then-a-i
returns-then-a-i c = sym (below_here c.args.a.now c.args.b.now c.loop-i.i (omega arith) (omega arith) c.if-a-i.true) ∙ c.loop-i.invariant

pub loop-i-preserved : goal.loop-i-preserved
loop-i-preserved c = sym (below_more c.args.a.now c.args.b.now c.loop-i.i (omega arith) (omega arith) c.if-a-i.false) ∙ c.loop-i.invariant

pub returns : goal.returns
returns c =
    let ends : (length c.args.a.now ≤ c.loop-i.i) ⊎ (length c.args.b.now ≤ c.loop-i.i) = elim (cases_lt c.loop-i.i (length c.args.a.now)) [ inl lt ↦ inr (omega arith) | inr le ↦ inl le ] in
    sym (below_end c.args.a.now c.args.b.now c.loop-i.i (omega arith) (omega arith) ends) ∙ c.loop-i.invariant
