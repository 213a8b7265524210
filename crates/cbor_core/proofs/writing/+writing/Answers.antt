use Rattle.std.proofs.Common.{◌+◌, ◌-◌, ◌<◌, ◌≤◌, ℕ, List, length, drop, Option, Some, refl, sym, ap, subst, ◌∙◌, arith}
use Rattle.cbor_core.specs.declared.heads.Head.{Head}
use Rattle.cbor_core.specs.declared.tree.Item.{Item}
use Rattle.cbor_core.specs.Head.{limit}
use Rattle.cbor_core.specs.Encoding.{both, head_text, spell_each, spell_in, flat, HasRoomFor, Puts}
use Rattle.cbor_core.proofs.WriteSteps.{head-whole, room-head, room-bytes, room-items, room-pairs, put-leaf, put-whole, room-first, room-rest, goes-rest, goes-end, items-here, items-over, pairs-here, pairs-over, GoesOn}
use Rattle.cbor_core.proofs.writing.+writing.Goals as goal

pub put_item-put_head-at-requires-clause-argument : goal.put_item-put_head-at-requires-clause-argument
put_item-put_head-at-requires-clause-argument t c =
    let g = c.args.g in
    let room = c.args.room in
    let item = c.args.item.now in
    let len = length c.args.out.now in
    subst (λ (h : Head). h.argument < limit h.size) (sym c.node_head.ensures.value) (head-whole g room item c.args.at len c.requires).0

pub put_item-put_head-at-requires-clause-room : goal.put_item-put_head-at-requires-clause-room
put_item-put_head-at-requires-clause-room t c =
    let g = c.args.g in
    let room = c.args.room in
    let item = c.args.item.now in
    let len = length c.args.out.now in
    let le = room-head g room item c.args.at len c.requires in
    (refl, subst (λ (h : Head). c.args.at + length (head_text h) ≤ len) (sym c.node_head.ensures.value) le)

pub put_item-put_bytes-at-requires : goal.put_item-put_bytes-at-requires
put_item-put_bytes-at-requires t c =
    let g = c.args.g in
    let room = c.args.room in
    let item = c.args.item.now in
    let len = length c.args.out.now in
    let mid = c.put_head-at.ensures.0 ∙ ap (λ (h : Head). c.args.at + length (head_text h)) c.node_head.ensures.value in
    let le = room-bytes g room item c.args.at len c.requires c.put_head-at.result mid in
    (refl, omega (arith, le, ap length c.bytes_in.ensures))

pub put_item-returns-then-room-eq0 : goal.put_item-returns-then-room-eq0
put_item-returns-then-room-eq0 t c =
    let g = c.args.g in
    let room = c.args.room in
    let item = c.args.item.now in
    let len = length c.args.out.now in
    let head = subst (λ (h : Head). Puts (Some (head_text h)) c.args.at c.args.out.now c.put_head-at.new.out c.put_head-at.result) c.node_head.ensures.value c.put_head-at.ensures in
    let bytes = subst (λ (b : List ℕ). Puts (Some b) c.put_head-at.result c.put_head-at.new.out c.put_bytes-at.new.out c.put_bytes-at.result) c.bytes_in.ensures c.put_bytes-at.ensures in
    put-leaf g room item c.args.at len c.requires c.if-room-eq0.true c.put_head-at.result c.put_bytes-at.result c.args.out.now c.put_head-at.new.out c.put_bytes-at.new.out head bytes

pub put_item-put_items-at-requires : goal.put_item-put_items-at-requires
put_item-put_items-at-requires t c =
    let g = c.args.g in
    let room = c.args.room in
    let item = c.args.item.now in
    let len = length c.args.out.now in
    let mid = c.put_head-at.ensures.0 ∙ ap (λ (h : Head). c.args.at + length (head_text h)) c.node_head.ensures.value in
    let end = c.put_bytes-at.ensures.0 ∙ ap (λ (b : List ℕ). c.put_head-at.result + length b) c.bytes_in.ensures in
    let there = room-items g room item c.args.at len c.requires c.put_head-at.result c.put_bytes-at.result (omega arith) mid end in
    let there' = subst (λ (l : List Item). HasRoomFor (spell_each (spell_in g (room - 1)) l) c.put_bytes-at.result len) (sym c.items_in.ensures) there in
    (omega arith, (there'.0, omega (arith, there'.1)))

pub put_item-put_pairs-requires : goal.put_item-put_pairs-requires
put_item-put_pairs-requires t c =
    let g = c.args.g in
    let room = c.args.room in
    let item = c.args.item.now in
    let len = length c.args.out.now in
    let mid = c.put_head-at.ensures.0 ∙ ap (λ (h : Head). c.args.at + length (head_text h)) c.node_head.ensures.value in
    let end = c.put_bytes-at.ensures.0 ∙ ap (λ (b : List ℕ). c.put_head-at.result + length b) c.bytes_in.ensures in
    let puts = subst (λ (l : List Item). Puts (spell_each (spell_in g (room - 1)) l) c.put_bytes-at.result c.put_bytes-at.new.out c.put_items-at.new.out c.put_items-at.result) c.items_in.ensures c.put_items-at.ensures in
    let there = room-pairs g room item c.args.at len c.requires c.put_head-at.result c.put_bytes-at.result c.put_items-at.result (omega arith) mid end puts.0 in
    let there' = subst (λ (l : List (Item × Item)). HasRoomFor (spell_each (spell_in g (room - 1)) (flat l)) c.put_items-at.result len) (sym c.pairs_in.ensures) there in
    (omega arith, (there'.0, omega (arith, there'.1)))

pub put_item-returns : goal.put_item-returns
put_item-returns t c =
    let g = c.args.g in
    let room = c.args.room in
    let item = c.args.item.now in
    let len = length c.args.out.now in
    let head = subst (λ (h : Head). Puts (Some (head_text h)) c.args.at c.args.out.now c.put_head-at.new.out c.put_head-at.result) c.node_head.ensures.value c.put_head-at.ensures in
    let bytes = subst (λ (b : List ℕ). Puts (Some b) c.put_head-at.result c.put_head-at.new.out c.put_bytes-at.new.out c.put_bytes-at.result) c.bytes_in.ensures c.put_bytes-at.ensures in
    let items = subst (λ (l : List Item). Puts (spell_each (spell_in g (room - 1)) l) c.put_bytes-at.result c.put_bytes-at.new.out c.put_items-at.new.out c.put_items-at.result) c.items_in.ensures c.put_items-at.ensures in
    let pairs = subst (λ (l : List (Item × Item)). Puts (spell_each (spell_in g (room - 1)) (flat l)) c.put_items-at.result c.put_items-at.new.out c.put_pairs.new.out c.put_pairs.result) c.pairs_in.ensures c.put_pairs.ensures in
    put-whole g room item c.args.at len c.requires (omega arith) c.put_head-at.result c.put_bytes-at.result c.put_items-at.result c.put_pairs.result c.args.out.now c.put_head-at.new.out c.put_bytes-at.new.out c.put_items-at.new.out c.put_pairs.new.out head bytes items pairs

pub put_items-put_item-at-requires : goal.put_items-put_item-at-requires
put_items-put_item-at-requires t c =
    let part = spell_in c.args.g c.args.room in
    let here = items-here part c.args.items.now c.loop-item.item-index c.item-item.result c.loop-item-test.true c.item-item.is in
    let room = subst (λ (o : Option (List ℕ)). HasRoomFor o c.loop-item.at (length c.loop-item.out)) here c.loop-item.invariant.room in
    let first = room-first (part c.item-item.result) (spell_each part (drop (c.loop-item.item-index + 1) c.args.items.now)) c.loop-item.at (length c.loop-item.out) room in
    (omega arith, (first.0, first.1))

pub put_items-loop-item-preserved : goal.put_items-loop-item-preserved
put_items-loop-item-preserved t c =
    let part = spell_in c.args.g c.args.room in
    let a = part c.item-item.result in
    let b = spell_each part (drop (c.loop-item.item-index + 1) c.args.items.now) in
    let whole = spell_each part c.args.items.now in
    let here = items-here part c.args.items.now c.loop-item.item-index c.item-item.result c.loop-item-test.true c.item-item.is in
    let room = subst (λ (o : Option (List ℕ)). HasRoomFor o c.loop-item.at (length c.loop-item.out)) here c.loop-item.invariant.room in
    let goes = subst (λ (o : Option (List ℕ)). GoesOn o c.loop-item.at c.loop-item.out whole c.args.at c.args.out.now) here c.loop-item.invariant.goes in
    let rest = room-rest a b c.loop-item.at c.put_item-at.result (length c.loop-item.out) room c.put_item-at.ensures.0 in
    record {
      room = (rest.0, omega (arith, rest.1));
      goes = goes-rest a b whole c.loop-item.at c.put_item-at.result c.args.at c.loop-item.out c.put_item-at.new.out c.args.out.now room.0 goes c.put_item-at.ensures;
    }

pub put_items-returns : goal.put_items-returns
put_items-returns t c =
    let part = spell_in c.args.g c.args.room in
    let whole = spell_each part c.args.items.now in
    let over = items-over part c.args.items.now c.loop-item.item-index c.loop-item-test.false in
    goes-end whole c.loop-item.at c.args.at c.loop-item.out c.args.out.now (subst (λ (o : Option (List ℕ)). GoesOn o c.loop-item.at c.loop-item.out whole c.args.at c.args.out.now) over c.loop-item.invariant.goes)

pub put_pairs-put_item-at-requires : goal.put_pairs-put_item-at-requires
put_pairs-put_item-at-requires t c =
    let part = spell_in c.args.g c.args.room in
    let x = c.pair-item.result in
    let here = pairs-here part c.args.pairs.now c.loop-pair.pair-index x c.loop-pair-test.true c.pair-item.is in
    let room = subst (λ (o : Option (List ℕ)). HasRoomFor o c.loop-pair.at (length c.loop-pair.out)) here c.loop-pair.invariant.room in
    let first = room-first (part x.0) (both (part x.1) (spell_each part (flat (drop (c.loop-pair.pair-index + 1) c.args.pairs.now)))) c.loop-pair.at (length c.loop-pair.out) room in
    (omega arith, (first.0, first.1))

pub put_pairs-put_item-at-requires-in-loop-pair : goal.put_pairs-put_item-at-requires-in-loop-pair
put_pairs-put_item-at-requires-in-loop-pair t c =
    let part = spell_in c.args.g c.args.room in
    let x = c.pair-item.result in
    let more = spell_each part (flat (drop (c.loop-pair.pair-index + 1) c.args.pairs.now)) in
    let here = pairs-here part c.args.pairs.now c.loop-pair.pair-index x c.loop-pair-test.true c.pair-item.is in
    let room = subst (λ (o : Option (List ℕ)). HasRoomFor o c.loop-pair.at (length c.loop-pair.out)) here c.loop-pair.invariant.room in
    let rest = room-rest (part x.0) (both (part x.1) more) c.loop-pair.at c.put_item-at.result (length c.loop-pair.out) room c.put_item-at.ensures.0 in
    let first = room-first (part x.1) more c.put_item-at.result (length c.loop-pair.out) rest in
    (omega arith, (first.0, omega (arith, first.1)))

pub put_pairs-loop-pair-preserved : goal.put_pairs-loop-pair-preserved
put_pairs-loop-pair-preserved t c =
    let part = spell_in c.args.g c.args.room in
    let x = c.pair-item.result in
    let more = spell_each part (flat (drop (c.loop-pair.pair-index + 1) c.args.pairs.now)) in
    let whole = spell_each part (flat c.args.pairs.now) in
    let value = c.put_item-at-in-loop-pair in
    let here = pairs-here part c.args.pairs.now c.loop-pair.pair-index x c.loop-pair-test.true c.pair-item.is in
    let room = subst (λ (o : Option (List ℕ)). HasRoomFor o c.loop-pair.at (length c.loop-pair.out)) here c.loop-pair.invariant.room in
    let goes = subst (λ (o : Option (List ℕ)). GoesOn o c.loop-pair.at c.loop-pair.out whole c.args.at c.args.out.now) here c.loop-pair.invariant.goes in
    let rest = room-rest (part x.0) (both (part x.1) more) c.loop-pair.at c.put_item-at.result (length c.loop-pair.out) room c.put_item-at.ensures.0 in
    let last = room-rest (part x.1) more c.put_item-at.result value.result (length c.loop-pair.out) rest value.ensures.0 in
    let behind_key = goes-rest (part x.0) (both (part x.1) more) whole c.loop-pair.at c.put_item-at.result c.args.at c.loop-pair.out c.put_item-at.new.out c.args.out.now room.0 goes c.put_item-at.ensures in
    record {
      room = (last.0, omega (arith, last.1));
      goes = goes-rest (part x.1) more whole c.put_item-at.result value.result c.args.at c.put_item-at.new.out value.new.out c.args.out.now rest.0 behind_key value.ensures;
    }

pub put_pairs-returns : goal.put_pairs-returns
put_pairs-returns t c =
    let part = spell_in c.args.g c.args.room in
    let whole = spell_each part (flat c.args.pairs.now) in
    let over = pairs-over part c.args.pairs.now c.loop-pair.pair-index c.loop-pair-test.false in
    goes-end whole c.loop-pair.at c.args.at c.loop-pair.out c.args.out.now (subst (λ (o : Option (List ℕ)). GoesOn o c.loop-pair.at c.loop-pair.out whole c.args.at c.args.out.now) over c.loop-pair.invariant.goes)
