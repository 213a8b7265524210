-- A loop over entries against the first fault among them: at a fault, at a step, and at the end.
use Rattle.std.proofs.Common.{◌≡◌, ℕ, ◌+◌, ◌<◌, ◌≤◌, List, length, drop, get_or, Option, Some, None, sym, ap, ◌∙◌}
use Rattle.std.proofs.lemmas.List.{at_drop_more, at_drop_all}
use Rattle.cbor_core.specs.declared.tree.Item.{Item}
use Rattle.cose_sign1.specs.declared.stops.Sign1Stop.{Sign1Stop}
use Rattle.cose_sign1.specs.declared.stops.Sign1Stop.TheVariants.{Cbor, Protected, NotSign1, BadHeader, DupLabel, BadCrit, OutOfMemory}
use Rattle.cose_sign1.specs.Headers.{or_then, first_fault, Stops}

-- a stop stands for one fault wherever it stands for another, if the one is the other
pub Stops-by : (stop : Sign1Stop) (a b : Option Sign1Stop) → (a ≡ Some stop → b ≡ Some stop) → Stops stop a → Stops stop b
Stops-by (Cbor fault) a b f h = f h
Stops-by (Protected fault) a b f h = f h
Stops-by NotSign1 a b f h = f h
Stops-by (BadHeader label) a b f h = f h
Stops-by (DupLabel label) a b f h = f h
Stops-by BadCrit a b f h = f h
Stops-by OutOfMemory a b f h = tt

module _ (fault : Item × Item → Option Sign1Stop) (entries : List (Item × Item)) (i : ℕ) (entry : Item × Item) where
  pub step_is : i < length entries → entry ≡ get_or entries i entry → first_fault fault (drop i entries) ≡ or_then (fault entry) (first_fault fault (drop (i + 1) entries))
  unfolding first_fault
  step_is lt e =
      at_drop_more (first_fault fault) entries i entry lt ∙ ap (λ (x : Item × Item). or_then (fault x) (first_fault fault (drop (i + 1) entries))) (sym e)

  pub fault_stops : (stop : Sign1Stop) → i < length entries → entry ≡ get_or entries i entry → Stops stop (fault entry)
      → first_fault fault (drop i entries) ≡ first_fault fault entries → Stops stop (first_fault fault entries)
  fault_stops stop lt e h so_far =
      Stops-by stop (fault entry) (first_fault fault entries) (λ (s : fault entry ≡ Some stop). sym so_far ∙ step_is lt e ∙ ap (λ o. or_then o (first_fault fault (drop (i + 1) entries))) s) h

  pub fault_goes : i < length entries → entry ≡ get_or entries i entry → fault entry ≡ None
      → first_fault fault (drop i entries) ≡ first_fault fault entries → first_fault fault (drop (i + 1) entries) ≡ first_fault fault entries
  fault_goes lt e none so_far =
      sym (step_is lt e ∙ ap (λ o. or_then o (first_fault fault (drop (i + 1) entries))) none) ∙ so_far

pub fault_ends : (fault : Item × Item → Option Sign1Stop) (entries : List (Item × Item)) (i : ℕ) → length entries ≤ i
    → first_fault fault (drop i entries) ≡ first_fault fault entries → first_fault fault entries ≡ None
unfolding first_fault
fault_ends fault entries i le so_far = sym so_far ∙ at_drop_all (first_fault fault) entries i le
