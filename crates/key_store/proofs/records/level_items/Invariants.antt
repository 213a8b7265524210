use Rattle.std.proofs.Common.{◌≡◌, map, take}
use Rattle.key_store.specs.Records.{level_item}
use Rattle.key_store.proofs.records.level_items.Given as goal

abbrev pub invariant-loop-level : goal.invariant-loop-level
invariant-loop-level l = l.items ≡ map level_item (take l.level-index l.levels)
