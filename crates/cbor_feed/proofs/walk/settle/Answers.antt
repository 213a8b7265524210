use Rattle.std.proofs.Common.{◌≡◌, ℕ, ◌-◌, List, [], ◌∷◌, ◌++◌, reverse, sym, ap, subst, ◌∙◌, arith}
use Rattle.cbor_feed.specs.declared.frames.Frame.{Frame}
use Rattle.cbor_feed.specs.Chains.{room_of, Chain, IsRead}
use Rattle.cbor_feed.proofs.ChainSteps.{last-first, part-spelled, frame-fresh, frame-goes, frame-whole, frame-stuck}
use Rattle.cbor_feed.proofs.walk.settle.Goals as goal

popped : (all front : List Frame) (frame : Frame) → all ≡ front ++ frame ∷ [] → reverse all ≡ frame ∷ reverse front
popped all front frame e = ap (λ (fs : List Frame). reverse fs) e ∙ last-first front frame

pub frame_with-requires-clause-fresh : goal.frame_with-requires-clause-fresh
frame_with-requires-clause-fresh c =
    let p = popped c.loop-frame.frames.items c.pop.new.self.items c.in-Some.frame c.in-Some.ensures.items in
    frame-fresh c.args.g c.in-Some.frame (reverse c.pop.new.self.items) c.args.held.now c.loop-frame.item c.args.end (λ i. omega (arith, c.type_inv.held i)) (subst (λ (fs : List Frame). Chain c.args.g fs c.args.held.now) p c.loop-frame.invariant.chain) (subst (λ (fs : List Frame). IsRead c.args.g fs c.args.held.now c.loop-frame.item c.args.end) p c.loop-frame.invariant.item)

pub frame_with-requires-clause-spelled : goal.frame_with-requires-clause-spelled
frame_with-requires-clause-spelled c =
    let p = popped c.loop-frame.frames.items c.pop.new.self.items c.in-Some.frame c.in-Some.ensures.items in
    let room : c.saturating_sub-room.result ≡ room_of (reverse c.pop.new.self.items) - 1 = c.saturating_sub-room.ensures ∙ ap (λ (n : ℕ). n - 1) (c.room_in.ensures ∙ ap (λ (fs : List Frame). room_of (reverse fs)) c.as_slice.ensures.value) in
    rw room (part-spelled c.read_keys_are_spelled.ensures.read c.args.g (c.in-Some.frame ∷ reverse c.pop.new.self.items) c.args.held.now c.loop-frame.item c.args.end (λ i. omega (arith, c.type_inv.held i)) (subst (λ (fs : List Frame). IsRead c.args.g fs c.args.held.now c.loop-frame.item c.args.end) p c.loop-frame.invariant.item))

pub returns-in-Goes : goal.returns-in-Goes
returns-in-Goes c =
    let p = popped c.loop-frame.frames.items c.pop.new.self.items c.in-Some.frame c.in-Some.ensures.items in
    let pushed = popped c.push.new.self.items c.pop.new.self.items c.in-Goes.frame c.in_ok-push-in-Goes.ensures.items in
    let s = frame-goes c.args.g c.in-Some.frame (reverse c.pop.new.self.items) c.args.held.now c.loop-frame.item c.args.end (λ i. omega (arith, c.type_inv.held i)) (subst (λ (fs : List Frame). Chain c.args.g fs c.args.held.now) p c.loop-frame.invariant.chain) (subst (λ (fs : List Frame). IsRead c.args.g fs c.args.held.now c.loop-frame.item c.args.end) p c.loop-frame.invariant.item) c.in-Goes.frame (sym c.in_ok-frame.ensures ∙ c.in-Goes.is) in
    rw pushed (s.1, s.0)

pub loop-frame-preserved : goal.loop-frame-preserved
loop-frame-preserved c =
    let p = popped c.loop-frame.frames.items c.pop.new.self.items c.in-Some.frame c.in-Some.ensures.items in
    let chain = subst (λ (fs : List Frame). Chain c.args.g fs c.args.held.now) p c.loop-frame.invariant.chain in
    record {
      chain = chain.1;
      item = frame-whole c.args.g c.in-Some.frame (reverse c.pop.new.self.items) c.args.held.now c.loop-frame.item c.args.end (λ i. omega (arith, c.type_inv.held i)) chain (subst (λ (fs : List Frame). IsRead c.args.g fs c.args.held.now c.loop-frame.item c.args.end) p c.loop-frame.invariant.item) c.in-Whole.whole (sym c.in_ok-frame.ensures ∙ c.in-Whole.is);
    }

pub returns-in-Stuck : goal.returns-in-Stuck
returns-in-Stuck c =
    let p = popped c.loop-frame.frames.items c.pop.new.self.items c.in-Some.frame c.in-Some.ensures.items in
    frame-stuck c.args.g c.in-Some.frame (reverse c.pop.new.self.items) c.args.held.now c.loop-frame.item c.args.end (λ i. omega (arith, c.type_inv.held i)) (subst (λ (fs : List Frame). Chain c.args.g fs c.args.held.now) p c.loop-frame.invariant.chain) (subst (λ (fs : List Frame). IsRead c.args.g fs c.args.held.now c.loop-frame.item c.args.end) p c.loop-frame.invariant.item) c.in-Stuck.why (sym c.in_ok-frame.ensures ∙ c.in-Stuck.is)
