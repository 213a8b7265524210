-- From what the steps of decoding answer to the message or the first step that fails.
use Rattle.std.proofs.Common.{◌≡◌, ℕ, Bool, true, false, not, ◌||◌, if◌then◌else◌, List, [], ◌∷◌, Option, Some, None, Err, subst, inr}
use Rattle.std.specs.Option.{option_map}
use Rattle.cbor_core.specs.declared.tree.Item.{Item}
use Rattle.cbor_core.specs.Tree.{is_key}
use Rattle.cose_sign1.specs.declared.labels.Label.{Label}
use Rattle.cose_sign1.specs.declared.parts.Parts.{Parts}
use Rattle.cose_sign1.specs.declared.stops.Sign1Stop.{Sign1Stop}
use Rattle.cose_sign1.specs.declared.stops.Sign1Stop.TheVariants.{Cbor, Protected, NotSign1, BadHeader, DupLabel, BadCrit, OutOfMemory}
use Rattle.cose_sign1.specs.Labels.{key_label, key_is}
use Rattle.cose_sign1.specs.Kinds.{has_kind}
use Rattle.cose_sign1.specs.Headers.{or_then, first_fault, named, bad_header, dup_label, protected_fault, unprotected_fault, bad_crit, crit_fault, header_fault, Stops}
use Rattle.cose_sign1.specs.Sign1Of.{HasParts, HasEntries, ReadsEntries, Sign1Fault, Answered}

-- a fault of the headers names a label, or is that of crit
abbrev OfHeaders : Option Sign1Stop → Type 0
OfHeaders None = Unit {0}
OfHeaders (Some (BadHeader label)) = Unit {0}
OfHeaders (Some (DupLabel label)) = Unit {0}
OfHeaders (Some BadCrit) = Unit {0}
OfHeaders (Some _) = ⊥

of_or : (a b : Option Sign1Stop) → OfHeaders a → OfHeaders b → OfHeaders (or_then a b)
of_or None b p q = q
of_or (Some stop) b p q = p

of_if : (b : Bool) (a : Option Sign1Stop) → OfHeaders a → OfHeaders (if b then a else None)
of_if true a p = p
of_if false a p = tt

of_bad : (label : Option Label) → OfHeaders (option_map BadHeader label)
of_bad None = tt
of_bad (Some label) = tt

of_dup : (label : Option Label) → OfHeaders (option_map DupLabel label)
of_dup None = tt
of_dup (Some label) = tt

of_protected : (entry : Item × Item) → OfHeaders (protected_fault entry)
of_protected entry = of_if (not (has_kind entry) || key_is 394 entry.0) (bad_header entry.0) (of_bad (key_label entry.0))

of_unprotected : (protected : List (Item × Item)) (entry : Item × Item) → OfHeaders (unprotected_fault protected entry)
of_unprotected protected entry =
    of_or (named dup_label (is_key protected entry.0) entry.0) (named bad_header (not (has_kind entry)) entry.0)
    (of_if (is_key protected entry.0) (dup_label entry.0) (of_dup (key_label entry.0)))
    (of_if (not (has_kind entry)) (bad_header entry.0) (of_bad (key_label entry.0)))

of_first : (fault : Item × Item → Option Sign1Stop) → ((entry : Item × Item) → OfHeaders (fault entry)) → (entries : List (Item × Item)) → OfHeaders (first_fault fault entries)
unfolding first_fault
of_first fault each [] = tt
of_first fault each (entry ∷ entries) = of_or (fault entry) (first_fault fault entries) (each entry) (of_first fault each entries)

of_headers : (protected unprotected : List (Item × Item)) → OfHeaders (header_fault protected unprotected)
unfolding header_fault
of_headers protected unprotected =
    of_or (first_fault protected_fault protected) (or_then (first_fault (unprotected_fault protected) unprotected) (crit_fault protected unprotected))
    (of_first protected_fault of_protected protected)
    (of_or (first_fault (unprotected_fault protected) unprotected) (crit_fault protected unprotected)
    (of_first (unprotected_fault protected) (of_unprotected protected) unprotected)
    (of_if (bad_crit protected unprotected) (Some BadCrit) tt))

module _ (bytes : List ℕ) (parts : Parts) (has : HasParts bytes parts) where
  pub entries_fail : (stop : Sign1Stop) → ReadsEntries parts.protected (Err stop) → Answered bytes (Err stop)
  entries_fail (Cbor fault) h = absurd h
  entries_fail (Protected fault) h = (parts, has, h)
  entries_fail NotSign1 h = inr (parts, has, h)
  entries_fail (BadHeader label) h = absurd h
  entries_fail (DupLabel label) h = absurd h
  entries_fail BadCrit h = absurd h
  entries_fail OutOfMemory h = tt

  -- a fault of the headers is the first step that fails
  pub headers_fault : (entries : List (Item × Item)) (stop : Sign1Stop) → HasEntries parts.protected entries → header_fault entries parts.unprotected ≡ Some stop → Sign1Fault bytes stop
  headers_fault entries (Cbor fault) e h = absurd (subst OfHeaders h (of_headers entries parts.unprotected))
  headers_fault entries (Protected fault) e h = absurd (subst OfHeaders h (of_headers entries parts.unprotected))
  headers_fault entries NotSign1 e h = absurd (subst OfHeaders h (of_headers entries parts.unprotected))
  headers_fault entries (BadHeader label) e h = (parts, entries, has, e, h)
  headers_fault entries (DupLabel label) e h = (parts, entries, has, e, h)
  headers_fault entries BadCrit e h = (parts, entries, has, e, h)
  headers_fault entries OutOfMemory e h = absurd (subst OfHeaders h (of_headers entries parts.unprotected))

  pub headers_fail : (entries : List (Item × Item)) (stop : Sign1Stop) → HasEntries parts.protected entries → Stops stop (header_fault entries parts.unprotected) → Answered bytes (Err stop)
  headers_fail entries (Cbor fault) e h = headers_fault entries (Cbor fault) e h
  headers_fail entries (Protected fault) e h = headers_fault entries (Protected fault) e h
  headers_fail entries NotSign1 e h = headers_fault entries NotSign1 e h
  headers_fail entries (BadHeader label) e h = headers_fault entries (BadHeader label) e h
  headers_fail entries (DupLabel label) e h = headers_fault entries (DupLabel label) e h
  headers_fail entries BadCrit e h = headers_fault entries BadCrit e h
  headers_fail entries OutOfMemory e h = tt
