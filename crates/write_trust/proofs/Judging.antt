-- From an item's strict bytes to the trust file that they are.
use Rattle.std.proofs.Common.{◌≡◌, ℕ, List, Ok, Err, ap, subst, ◌∙◌}
use Rattle.cbor_core.specs.declared.words.Grammar.TheVariants.{Strict}
use Rattle.cbor_core.specs.declared.words.Fault.{Fault}
use Rattle.cbor_core.specs.declared.tree.Item.{Item}
use Rattle.cbor_core.specs.Spells.{Spells}
use Rattle.cbor_core.specs.Decoding.{OneItem, WholeFault}
use Rattle.relying_party.specs.declared.trust.Trust.{Trust}
use Rattle.relying_party.specs.declared.trust.TrustStop.{TrustStop}
use Rattle.relying_party.specs.declared.trust.TrustStop.TheVariants.{Cbor}
use Rattle.relying_party.specs.TrustFiles.{trust_in, TrustOf, Decoded}
use Rattle.scitt_forms.specs.Writing.{Writes}
use Rattle.write_trust.specs.WritesTrust.{judged, past_word, trust_doc}

module _ (items : OneItem) (bytes : List ℕ) (item : Item) (spelled : Spells Strict item bytes) where
  -- the bytes' trust file is the item's
  pub written_ok : (trust : Trust) → TrustOf bytes trust → Writes TrustOf trust_doc (Ok item) (Ok bytes)
  written_ok trust (other, s, e) =
      (trust, ap (judged (past_word item)) (ap trust_in (items Strict bytes item other spelled s) ∙ e), (other, s, e))

-- a fault that the decoder answers
pub fault_of : (bytes : List ℕ) (stop : TrustStop) (fault : Fault) → Decoded bytes (Err stop) → stop ≡ Cbor fault → WholeFault Strict bytes fault
fault_of bytes stop fault answers is = let h : Decoded bytes (Err (Cbor fault)) = subst (λ (s : TrustStop). Decoded bytes (Err s)) is answers in h
