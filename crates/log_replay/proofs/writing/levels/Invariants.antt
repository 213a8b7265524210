use Rattle.std.proofs.Common.{◌≡◌, map, take}
use Rattle.log_replay.specs.Records.{level_item}
use Rattle.log_replay.proofs.writing.levels.Given as goal

abbrev pub invariant-loop-one : goal.invariant-loop-one
invariant-loop-one l = l.items ≡ map level_item (take l.one-index l.all)
