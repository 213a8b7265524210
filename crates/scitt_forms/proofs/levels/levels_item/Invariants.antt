use Rattle.std.proofs.Common.{◌≡◌, map, take}
use Rattle.scitt_forms.specs.Levels.{level_item}
use Rattle.scitt_forms.proofs.levels.levels_item.Given as goal

abbrev pub invariant-loop-level : goal.invariant-loop-level
invariant-loop-level l = l.items ≡ map level_item (take l.level-index l.levels)
