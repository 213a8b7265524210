use Rattle.std.proofs.Common.{◌≡◌, [], drop}
use Rattle.cbor_core.specs.Items.{uint_in}
use Rattle.policy_rules.specs.Conditions.{each_onto}
use Rattle.scitt_script.proofs.reading.each_moment.Given as goal

abbrev pub invariant-loop-item : goal.invariant-loop-item
invariant-loop-item l = each_onto uint_in l.moments (drop l.item-index l.items) ≡ each_onto uint_in [] l.items
