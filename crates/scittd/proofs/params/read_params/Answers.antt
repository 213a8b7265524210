use Rattle.std.proofs.Common.{◌≡◌, ℕ, List, subst}
use Rattle.std.proofs.lemmas.Result.{IfOk-weaker}
use Rattle.log_params.specs.ParamFiles.{ParamsOf}
use Rattle.scittd.proofs.Contents.{of_content}
use Rattle.scittd.proofs.params.read_params.Goals as goal

pub returns-in-Ok-clause-params : goal.returns-in-Ok-clause-params
returns-in-Ok-clause-params g c =
    IfOk-weaker c.params_of.result _ _
    (λ params is. of_content _ _ _ (λ bytes. ParamsOf bytes params) c.in-Ok.ensures.read (subst (λ (bytes : List ℕ). ParamsOf bytes params) c.as_slice.ensures.value is))
    c.params_of.ensures.params
