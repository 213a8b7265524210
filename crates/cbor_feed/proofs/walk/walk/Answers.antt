use Rattle.std.proofs.Common.{◌≡◌, ◌+◌, ◌≤◌, List, ◌∷◌, length, drop, reverse, sym, ap, subst, ◌∙◌, arith}
use Rattle.std.proofs.lemmas.List.{take_rest, length-drop}
use Rattle.cbor_feed.specs.declared.frames.Frame.{Frame}
use Rattle.cbor_feed.specs.declared.frames.Parts.{Parts}
use Rattle.cbor_feed.specs.Chains.{room_of, start_of, Chain}
use Rattle.cbor_feed.proofs.ChainSteps.{last-first, item-read, chain-opened, stopped-there}
use Rattle.cbor_feed.proofs.walk.walk.Goals as goal

pub settle-requires-clause-item : goal.settle-requires-clause-item
settle-requires-clause-item c =
    let room : c.room_in-room.result ≡ room_of (reverse c.loop-item.frames.items) = c.room_in-room.ensures ∙ ap (λ (fs : List Frame). room_of (reverse fs)) c.as_slice-in-loop-item.ensures.value in
    item-read c.args.g (reverse c.loop-item.frames.items) c.args.held.now c.loop-item.at c.room_in-room.result c.in-Ok-Whole.item c.in-Ok-Whole.len c.loop-item.invariant.place c.loop-item.invariant.within room (rw (c.in-Ok-Whole.field-0-is, take_rest c.args.held.now c.loop-item.at) at c.in-Ok-Whole.ensures)

pub loop-item-preserved : goal.loop-item-preserved
loop-item-preserved c =
    let held = c.args.held.now in
    let at = c.loop-item.at in
    let len = c.in-Ok-Opens.len in
    let frames = reverse c.loop-item.frames.items in
    let room : c.room_in-room.result ≡ room_of frames = c.room_in-room.ensures ∙ ap (λ (fs : List Frame). room_of (reverse fs)) c.as_slice-in-loop-item.ensures.value in
    let there = rw (c.in-Ok-Opens.field-0-is, take_rest held at) at c.in-Ok-Opens.ensures in
    let frame : Frame = record { start = at + len; parts = c.parts_of.result } in
    let pushed : reverse c.push.new.self.items ≡ frame ∷ frames = ap (λ (fs : List Frame). reverse fs) c.in_ok-push-in-Ok-Opens.ensures.items ∙ last-first c.loop-item.frames.items frame in
    let chain = chain-opened c.args.g frames held at c.room_in-room.result c.in-Ok-Opens.container len c.loop-item.invariant.chain c.loop-item.invariant.place c.loop-item.invariant.within room there in
    let chain' : Chain c.args.g (frame ∷ frames) held = subst (λ (p : Parts). Chain c.args.g (record { start = at + len; parts = p } ∷ frames) held) (sym c.parts_of.ensures) chain in
    let fits : len ≤ length (drop at held) = there.within in
    record {
      chain = rw pushed chain';
      place = ap start_of pushed;
      within = omega (arith, length-drop at held);
    }

pub returns-in-Err-At : goal.returns-in-Err-At
returns-in-Err-At c =
    let held = c.args.held.now in
    let at = c.loop-item.at in
    let frames = reverse c.loop-item.frames.items in
    let room : c.room_in-room.result ≡ room_of frames = c.room_in-room.ensures ∙ ap (λ (fs : List Frame). room_of (reverse fs)) c.as_slice-in-loop-item.ensures.value in
    let stops = rw (c.in-Err-At.field-0-is, take_rest held at) at c.in-Err-At.ensures in
    stopped-there c.args.g frames held at c.room_in-room.result c.in-Err-At.why (λ i. omega (arith, c.type_inv.held i)) c.loop-item.invariant.chain c.loop-item.invariant.place c.loop-item.invariant.within room stops c.stopped.result (rw c.in-Err-At.field-0-is at c.stopped.ensures)
