use Rattle.std.proofs.Common.{inl, inr, sym, arith}
use Rattle.cbor_core.proofs.CompareLemmas.{differs_here, front_here}
use Rattle.cbor_core.proofs.comparing.compare_bytes.Goals as goal

pub returns-then-a-i : goal.returns-then-a-i
returns-then-a-i c = inl (differs_here c.args.a.now c.args.b.now c.loop-i.i (omega arith) (omega arith) c.loop-i.invariant c.if-a-i.true)

pub returns-then-b-i : goal.returns-then-b-i
returns-then-b-i c = inl (differs_here c.args.b.now c.args.a.now c.loop-i.i (omega arith) (omega arith) (sym c.loop-i.invariant) c.if-b-i.true)

pub returns-then-a-b : goal.returns-then-a-b
returns-then-a-b c = inr (front_here c.args.a.now c.args.b.now c.loop-i.i (omega arith) c.if-a-b.true c.loop-i.invariant)

pub returns-then-b-a : goal.returns-then-b-a
returns-then-b-a c = inr (front_here c.args.b.now c.args.a.now c.loop-i.i (omega arith) c.if-b-a.true (sym c.loop-i.invariant))
