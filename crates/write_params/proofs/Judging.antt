-- From an item's strict bytes to the parameters that they are.
use Rattle.std.proofs.Common.{◌≡◌, ℕ, List, Ok, Err, Some, None, ap, subst, ◌∙◌}
use Rattle.std.specs.Prelude.{Option}
use Rattle.cbor_core.specs.declared.words.Grammar.TheVariants.{Strict}
use Rattle.cbor_core.specs.declared.words.Fault.{Fault}
use Rattle.cbor_core.specs.declared.tree.Item.{Item}
use Rattle.cbor_core.specs.Spells.{Spells}
use Rattle.cbor_core.specs.Decoding.{OneItem, WholeFault}
use Rattle.registrar.specs.declared.words.Params.{Params}
use Rattle.log_params.specs.declared.stop.ParamsStop.{ParamsStop}
use Rattle.log_params.specs.declared.stop.ParamsStop.TheVariants.{Cbor}
use Rattle.log_params.specs.ParamFiles.{params_file_in, ParamsOf, Decoded}
use Rattle.scitt_forms.specs.declared.refusal.Word.{Word}
use Rattle.scitt_forms.specs.Writing.{Writes}
use Rattle.write_params.specs.WritesParams.{judged, past_word, params_doc}

-- within the limits the document is what the item is read as
read_as : (past : Option Word) (was is : Option Params) → past ≡ None → was ≡ is → judged past was ≡ judged None is
read_as past was is none same = ap (λ w. judged w was) none ∙ ap (judged None) same

module _ (items : OneItem) (bytes : List ℕ) (item : Item) (spelled : Spells Strict item bytes) (within : past_word item ≡ None) where
  -- the bytes' parameters are the item's
  pub written_ok : (params : Params) → ParamsOf bytes params → Writes ParamsOf params_doc (Ok item) (Ok bytes)
  written_ok params (other, s, e) =
      let same : params_file_in item ≡ Some params = ap params_file_in (items Strict bytes item other spelled s) ∙ e in
      (params, read_as (past_word item) (params_file_in item) (Some params) within same, (other, s, e))

-- a fault that the decoder answers
pub fault_of : (bytes : List ℕ) (stop : ParamsStop) (fault : Fault) → Decoded bytes (Err stop) → stop ≡ Cbor fault → WholeFault Strict bytes fault
fault_of bytes stop fault answers is = let h : Decoded bytes (Err (Cbor fault)) = subst (λ (s : ParamsStop). Decoded bytes (Err s)) is answers in h
