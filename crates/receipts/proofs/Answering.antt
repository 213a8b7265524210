-- From the item to the bytes.
use Rattle.std.proofs.Common.{◌≡◌, ℕ, List, Bool, true, false, [], refl}
use Rattle.std.specs.Prelude.{◌∷◌, Option, Some, None, Result, Ok, Err}
use Rattle.cbor_core.specs.declared.words.Grammar.TheVariants.{Strict}
use Rattle.cbor_core.specs.declared.words.Fault.{Fault}
use Rattle.cbor_core.specs.declared.tree.Item.{Item}
use Rattle.cbor_core.specs.Spells.{Spells}
use Rattle.receipts.specs.declared.receipt.Receipt.{Receipt}
use Rattle.receipts.specs.declared.receipt.Named.{Named}
use Rattle.receipts.specs.declared.receipt.Proof.{Proof}
use Rattle.receipts.specs.declared.receipt.ReceiptStop.{ReceiptStop}
use Rattle.receipts.specs.declared.receipt.ReceiptStop.TheVariants.{Cbor, NotReceipt, BadProtected, BadProof, OutOfMemory}
use Rattle.cbor_core.specs.Items.{bytes_in, map_in, is_nil}
use Rattle.receipts.specs.Steps.{and_then, or_stop}
use Rattle.receipts.specs.Form.{tagged_items, protected_in, proof_in, made_of, receipt_with, receipt_outer, receipt_by, receipt_in, AnswersAs, Answered}

-- no item is refused as one that isn't there
no_fault_with : (n : Option Named) (p : List ℕ) (u : List (Item × Item)) (s : List ℕ) (fault : Fault) → protected_in p ≡ n → receipt_with p u s ≡ Err (Cbor fault) → ⊥
no_fault_with n p u s fault is e = go (protected_in p) (proof_in u) s fault e
  where
    go : (n : Option Named) (proof : Option Proof) (s : List ℕ) (fault : Fault)
        → and_then (or_stop BadProtected n) (λ n. and_then (or_stop BadProof proof) (λ proof. Ok (made_of n proof s))) ≡ Err (Cbor fault) → ⊥
    go None proof s fault e = cc
    go (Some n) None s fault e = cc
    go (Some n) (Some proof) s fault e = cc

no_fault_outer : (p : Option (List ℕ)) (u : Option (List (Item × Item))) (c : Bool) (s : Option (List ℕ)) (fault : Fault) → receipt_outer p u c s ≡ Err (Cbor fault) → ⊥
no_fault_outer None u c s fault e = cc
no_fault_outer (Some p) None c s fault e = cc
no_fault_outer (Some p) (Some u) false s fault e = cc
no_fault_outer (Some p) (Some u) true None fault e = cc
no_fault_outer (Some p) (Some u) true (Some s) fault e = no_fault_with (protected_in p) p u s fault refl e

no_fault_by : (items : List Item) (fault : Fault) → receipt_by items ≡ Err (Cbor fault) → ⊥
no_fault_by [] fault e = cc
no_fault_by (a ∷ []) fault e = cc
no_fault_by (a ∷ b ∷ []) fault e = cc
no_fault_by (a ∷ b ∷ c ∷ []) fault e = cc
no_fault_by (p ∷ u ∷ c ∷ s ∷ []) fault e = no_fault_outer (bytes_in p) (map_in u) (is_nil c) (bytes_in s) fault e
no_fault_by (a ∷ b ∷ c ∷ d ∷ x ∷ more) fault e = cc

no_fault : (item : Item) (fault : Fault) → receipt_in item ≡ Err (Cbor fault) → ⊥
unfolding receipt_in
no_fault item fault e = go (tagged_items item) e
  where
    go : (o : Option (List Item)) → and_then (or_stop NotReceipt o) receipt_by ≡ Err (Cbor fault) → ⊥
    go None e = cc
    go (Some items) e = no_fault_by items fault e

pub answered_by : (bytes : List ℕ) (item : Item) (result : Result Receipt ReceiptStop) → Spells Strict item bytes → AnswersAs result (receipt_in item) → Answered bytes result
answered_by bytes item (Ok receipt) spelled answers = (item, spelled, answers)
answered_by bytes item (Err (Cbor fault)) spelled answers = absurd (no_fault item fault answers)
answered_by bytes item (Err NotReceipt) spelled answers = (item, spelled, answers)
answered_by bytes item (Err BadProtected) spelled answers = (item, spelled, answers)
answered_by bytes item (Err BadProof) spelled answers = (item, spelled, answers)
answered_by bytes item (Err OutOfMemory) spelled answers = tt
