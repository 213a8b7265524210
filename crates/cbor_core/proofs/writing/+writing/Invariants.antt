use Rattle.std.proofs.Common.{◌+◌, ◌*◌, length, drop}
use Rattle.cbor_core.specs.Encoding.{HasRoomFor, spell_each, spell_in, flat}
use Rattle.cbor_core.proofs.WriteSteps.{GoesOn}
use Rattle.cbor_core.proofs.writing.+writing.Given as goal

abbrev pub decreases-put_item : goal.decreases-put_item
decreases-put_item l = 2 * l.room + 1

abbrev pub decreases-put_items : goal.decreases-put_items
decreases-put_items l = 2 * l.room + 2

abbrev pub decreases-put_pairs : goal.decreases-put_pairs
decreases-put_pairs l = 2 * l.room + 2

abbrev pub invariant-put_items-loop-item : goal.invariant-put_items-loop-item
invariant-put_items-loop-item l = record {
  room : HasRoomFor (spell_each (spell_in l.g l.room) (drop l.item-index l.items)) l.at (length l.out);
  goes : GoesOn (spell_each (spell_in l.g l.room) (drop l.item-index l.items)) l.at l.out (spell_each (spell_in l.g l.room) l.items) l.initial.at l.initial.out;
}

abbrev pub invariant-put_pairs-loop-pair : goal.invariant-put_pairs-loop-pair
invariant-put_pairs-loop-pair l = record {
  room : HasRoomFor (spell_each (spell_in l.g l.room) (flat (drop l.pair-index l.pairs))) l.at (length l.out);
  goes : GoesOn (spell_each (spell_in l.g l.room) (flat (drop l.pair-index l.pairs))) l.at l.out (spell_each (spell_in l.g l.room) (flat l.pairs)) l.initial.at l.initial.out;
}
