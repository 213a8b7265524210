use Rattle.std.proofs.Common.{◌≡◌, Some, rules, ap, ◌∙◌}
use Rattle.std.specs.Prelude.{option_and_then}
use Rattle.log_replay.specs.Records.{levels_in}
use Rattle.log_params.specs.ParamFiles.{when_signing}
use Rattle.log_params.proofs.LevelsTold.{levels_told}
use Rattle.log_params.proofs.reading.levels_of.Goals as goal

pub returns-in-Some : goal.returns-in-Some
returns-in-Some c =
    let read : Some c.as_slice.result.now ≡ levels_in c.args.item.now = search rules in
    levels_told c.as_slice.result.now c.of.result c.of.ensures.some c.of.ensures.value ∙ ap (option_and_then when_signing) read
