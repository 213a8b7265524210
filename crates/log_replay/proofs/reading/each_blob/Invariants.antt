use Rattle.std.proofs.Common.{◌≡◌, [], drop}
use Rattle.cbor_core.specs.Items.{bytes_in}
use Rattle.policy_rules.specs.Conditions.{each_onto}
use Rattle.log_replay.proofs.reading.each_blob.Given as goal

abbrev pub invariant-loop-item : goal.invariant-loop-item
invariant-loop-item l = each_onto bytes_in l.blobs (drop l.item-index l.items) ≡ each_onto bytes_in [] l.items
