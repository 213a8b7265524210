use Rattle.std.proofs.Common.{◌≡◌, ◌+◌, ◌*◌, drop, [], Some}
use Rattle.cbor_core.specs.Encoding.{sum_len, len_of, spell_each, spell_pairs, spell_in, last_text, IsLast}
use Rattle.cbor_core.proofs.measuring.+measuring.Given as goal

abbrev pub decreases-item_len : goal.decreases-item_len
decreases-item_len l = 4 * l.room + 2

abbrev pub decreases-node_len : goal.decreases-node_len
decreases-node_len l = 4 * l.room + 1

abbrev pub decreases-content_len : goal.decreases-content_len
decreases-content_len l = 4 * l.room

abbrev pub decreases-items_len : goal.decreases-items_len
decreases-items_len l = 4 * l.room + 3

abbrev pub decreases-pairs_len : goal.decreases-pairs_len
decreases-pairs_len l = 4 * l.room + 3

abbrev pub invariant-items_len-loop-item : goal.invariant-items_len-loop-item
invariant-items_len-loop-item l = record {
  total : sum_len l.total (len_of (spell_each (spell_in l.g l.room) (drop l.item-index l.items))) ≡ len_of (spell_each (spell_in l.g l.room) l.items);
  fits : sum_len l.total (Some 0) ≡ l.total;
}

abbrev pub invariant-pairs_len-loop-pair : goal.invariant-pairs_len-loop-pair
invariant-pairs_len-loop-pair l = record {
  total : sum_len l.total (len_of (spell_pairs l.g (spell_in l.g l.room) (last_text l.g l.room l.last) (drop l.pair-index l.pairs))) ≡ len_of (spell_pairs l.g (spell_in l.g l.room) [] l.pairs);
  fits : sum_len l.total (Some 0) ≡ l.total;
  last : IsLast l.g l.room l.last;
}
