use Rattle.std.proofs.Common.{◌≡◌, [], drop}
use Rattle.policy_rules.specs.Conditions.{each_onto}
use Rattle.log_replay.specs.Records.{level_in}
use Rattle.log_replay.proofs.holders.each_level.Given as goal

abbrev pub invariant-loop-item : goal.invariant-loop-item
invariant-loop-item l = each_onto level_in l.levels (drop l.item-index l.items) ≡ each_onto level_in [] l.items
