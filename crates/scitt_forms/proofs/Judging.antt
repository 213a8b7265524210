-- From an item's strict bytes to the document that they are.
use Rattle.std.proofs.Common.{◌≡◌, ℕ, List, Ok, Err, refl, ap, subst, ◌∙◌}
use Rattle.cbor_core.specs.declared.words.Grammar.TheVariants.{Strict}
use Rattle.cbor_core.specs.declared.words.Fault.{Fault}
use Rattle.cbor_core.specs.declared.tree.Item.{Item}
use Rattle.cbor_core.specs.Spells.{Spells}
use Rattle.cbor_core.specs.Decoding.{OneItem, WholeFault}
use Rattle.policy_rules.specs.declared.documents.Policy.{Policy}
use Rattle.policy_rules.specs.declared.documents.PolicyStop.{PolicyStop}
use Rattle.policy_rules.specs.declared.documents.PolicyStop.TheVariants.{BadPolicy, Cbor}
use Rattle.policy_rules.specs.Documents.{policy_in, PolicyOf, PolicyFault, Decoded}
use Rattle.scitt_forms.specs.declared.refusal.Why.TheVariants.{Limits}
use Rattle.scitt_forms.specs.Refusals.{Said, refusal}
use Rattle.scitt_forms.specs.Fields.{form}
use Rattle.scitt_forms.specs.Writing.{judged, policy_doc, word_of, Writes, Encodes}
use Rattle.scitt_forms.specs.declared.stop.FormStop.{FormStop}
use Rattle.scitt_forms.specs.declared.stop.FormStop.TheVariants.{Refused, TooLong, OutOfMemory}

module _ (items : OneItem) (bytes : List ℕ) (item : Item) (spelled : Spells Strict item bytes) where
  -- the bytes' document is the item's
  pub written_ok : (policy : Policy) → PolicyOf bytes policy → Writes PolicyOf policy_doc (Ok item) (Ok bytes)
  written_ok policy (other, s, e) = (policy, ap judged (ap policy_in (items Strict bytes item other spelled s) ∙ e), (other, s, e))

  -- and so is the place that fails
  pub written_bad : (place : ℕ) → PolicyFault bytes (BadPolicy place) → policy_doc item ≡ Err (refusal form (word_of place) Limits)
  written_bad place (other, s, e) = ap judged (ap policy_in (items Strict bytes item other spelled s) ∙ e)

-- what stopped the bytes of an item stops its document
pub stopped : {D : Type 0} (Of : List ℕ → D → Type 0) (doc : Item → Said D) (item : Item) (stop : FormStop) → Encodes item (Err stop) → Writes Of doc (Ok item) (Err stop)
stopped Of doc item (Refused r) never = absurd never
stopped Of doc item TooLong none = (item, refl, none)
stopped Of doc item OutOfMemory none = tt

-- a fault that the decoder answers
pub fault_of : (bytes : List ℕ) (stop : PolicyStop) (fault : Fault) → Decoded bytes (Err stop) → stop ≡ Cbor fault → WholeFault Strict bytes fault
fault_of bytes stop fault answers is = let h : Decoded bytes (Err (Cbor fault)) = subst (λ (s : PolicyStop). Decoded bytes (Err s)) is answers in h
