-- From the item to the bytes.
use Rattle.std.proofs.Common.{ℕ, List, Result, Ok, Err}
use Rattle.cbor_core.specs.declared.words.Grammar.TheVariants.{Strict}
use Rattle.cbor_core.specs.declared.tree.Item.{Item}
use Rattle.cbor_core.specs.Spells.{Spells}
use Rattle.registrar.specs.declared.words.Params.{Params}
use Rattle.log_params.specs.declared.stop.ParamsStop.{ParamsStop}
use Rattle.log_params.specs.declared.stop.ParamsStop.TheVariants.{Cbor, BadParams, OutOfMemory}
use Rattle.log_params.specs.ParamFiles.{params_file_in, AnswersAs, Decoded}

pub decoded_by : (bytes : List ℕ) (item : Item) (result : Result Params ParamsStop) → Spells Strict item bytes → AnswersAs result (params_file_in item) → Decoded bytes result
decoded_by bytes item (Ok params) spelled answers = (item, spelled, answers)
decoded_by bytes item (Err (Cbor fault)) spelled answers = absurd answers
decoded_by bytes item (Err BadParams) spelled answers = (item, spelled, answers)
decoded_by bytes item (Err OutOfMemory) spelled answers = tt
