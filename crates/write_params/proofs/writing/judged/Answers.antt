use Rattle.log_params.specs.ParamFiles.{ParamsOf}
use Rattle.scitt_forms.proofs.Judging.{stopped}
use Rattle.write_params.specs.WritesParams.{params_doc}
use Rattle.write_params.proofs.writing.judged.Goals as goal

pub returns-in-Err : goal.returns-in-Err
returns-in-Err c = stopped ParamsOf params_doc c.args.item.now c.in-Err.stop c.in-Err.ensures
