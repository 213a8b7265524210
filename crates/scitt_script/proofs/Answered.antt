-- From the item to the bytes.
use Rattle.std.proofs.Common.{◌≡◌, ℕ, List, Option, Some, None, Result, Ok, Err, sym, ap, ◌∙◌}
use Rattle.cbor_core.specs.declared.words.Grammar.TheVariants.{Strict}
use Rattle.cbor_core.specs.declared.words.Fault.{Fault}
use Rattle.cbor_core.specs.declared.tree.Item.{Item}
use Rattle.cbor_core.specs.Spells.{Spells}
use Rattle.cbor_core.specs.Decoding.{NeverBoth, OneItem, WholeFault}
use Rattle.scitt_script.specs.declared.script.Script.{Script}
use Rattle.scitt_script.specs.declared.script.ScriptStop.{ScriptStop}
use Rattle.scitt_script.specs.declared.script.ScriptStop.TheVariants.{BadScript, OutOfMemory}
use Rattle.scitt_script.specs.Scripts.{script_in, AnswersAs, Decoded, IsNoScript}

some_none : (s : Script) → ◌≡◌ {A = Option Script} None (Some s) → ⊥
some_none s e = cc

pub decoded_by : OneItem → (bytes : List ℕ) (item : Item) (result : Result Script ScriptStop) → Spells Strict item bytes → AnswersAs result (script_in item) → Decoded bytes result
decoded_by items bytes item (Ok script) spelled answers = (item, spelled, answers)
decoded_by items bytes item (Err BadScript) spelled answers =
    λ script of. some_none script (sym answers ∙ ap script_in (items Strict bytes item of.0 spelled of.1) ∙ of.2)
decoded_by items bytes item (Err OutOfMemory) spelled answers = tt

pub no_script_by : NeverBoth → (bytes : List ℕ) (fault : Fault) → WholeFault Strict bytes fault → IsNoScript bytes
no_script_by never bytes fault is script of = never Strict bytes of.0 fault of.1 is
