use Rattle.std.proofs.Common.{◌≡◌, drop}
use Rattle.std.specs.List.{list_all}
use Rattle.log_replay.specs.WellMade.{is_signing_level}
use Rattle.log_replay.proofs.rules.all_sign.Given as goal

abbrev pub invariant-loop-level : goal.invariant-loop-level
invariant-loop-level l = list_all is_signing_level (drop l.level-index l.levels) ≡ list_all is_signing_level l.levels
