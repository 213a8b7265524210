-- The parts of a container, one after the other.
use Rattle.std.proofs.Common.{◌≡◌, ℕ, zero, suc, ◌+◌, ◌-◌, ◌<◌, List, [], ◌∷◌, ◌++◌, length, Ok, Err, refl, sym, ap, ◌∙◌, inl, inr, arith, append_assoc}
use Rattle.std.proofs.lemmas.List.{append-nil}
use Rattle.cbor_core.specs.declared.words.Why.{Why}
use Rattle.cbor_core.specs.declared.heads.Stop.{Stop}
use Rattle.cbor_core.specs.declared.tree.Item.{Item}
use Rattle.cbor_core.specs.Bytes.{IsBytes}
use Rattle.cbor_core.specs.Spells.{SpellEach}
use Rattle.cbor_core.specs.Faults.{StuckAfter}
use Rattle.cbor_core.specs.Reading.{Reader, read_each}
use Rattle.cbor_core.proofs.StepLemmas.{IsBytes-after, steps_ok, steps_err, ok_is, ok_err}

-- what is spelled is read again; what is read is spelled; a fault that is read is one; a fault that is one is read
abbrev pub ReadsAgain : (Item → List ℕ → Type 0) → Reader → Type 0
ReadsAgain Part part = (item : Item) (text rest : List ℕ) → Part item text → part (text ++ rest) ≡ Ok (item, rest)

abbrev pub ReadsSpelled : (Item → List ℕ → Type 0) → Reader → Type 0
ReadsSpelled Part part = (bytes : List ℕ) (item : Item) (rest : List ℕ) → IsBytes bytes → part bytes ≡ Ok (item, rest) → (text : List ℕ) × Part item text × (bytes ≡ text ++ rest)

abbrev pub StopsStuck : (List ℕ → ℕ → Why → Type 0) → Reader → Type 0
StopsStuck Inner part = (bytes : List ℕ) (stop : Stop) → IsBytes bytes → part bytes ≡ Err stop → Inner bytes stop.left stop.why

abbrev pub StuckStops : (List ℕ → ℕ → Why → Type 0) → Reader → Type 0
StuckStops Inner part = (bytes : List ℕ) (left : ℕ) (why : Why) → Inner bytes left why → part bytes ≡ Err (record { left = left; why = why })

module _ (Part : Item → List ℕ → Type 0) (part : Reader) where
  -- ---- items

  pub each-reaches : ReadsAgain Part part → (items : List Item) (text rest : List ℕ) (front : List Item) (more : ℕ) → SpellEach Part items text
      → read_each part (length items + more) front (text ++ rest) ≡ read_each part more (front ++ items) rest
  unfolding SpellEach read_each
  each-reaches again [] text rest front more e =
      let n : 0 + more ≡ more = omega arith in
      rw (n, e, append-nil front) refl
  each-reaches again (item ∷ items) text rest front more (a, b, p, s, e) =
      let n : suc (length items) + more ≡ suc (length items + more) = omega arith in
      let bytes : text ++ rest ≡ a ++ (b ++ rest) = rw e (append_assoc a b rest) in
      let one : read_each part (suc (length items + more)) front (a ++ (b ++ rest)) ≡ read_each part (length items + more) (front ++ item ∷ []) (b ++ rest) = rw (again item a (b ++ rest) p) refl in
      let two = each-reaches again items b rest (front ++ item ∷ []) more s in
      rw (n, bytes) (one ∙ two ∙ ap (λ (f : List Item). read_each part more f rest) (append_assoc front (item ∷ []) items))

  pub each-again : ReadsAgain Part part → (items : List Item) (text rest : List ℕ) → SpellEach Part items text → read_each part (length items) [] (text ++ rest) ≡ Ok (items, rest)
  unfolding read_each
  each-again again items text rest s =
      let n : length items + 0 ≡ length items = omega arith in
      rw n at (each-reaches again items text rest [] 0 s)

  pub each-spelled : ReadsSpelled Part part → (count : ℕ) (front : List Item) (bytes : List ℕ) (all : List Item) (rest : List ℕ) → IsBytes bytes → read_each part count front bytes ≡ Ok (all, rest)
      → (items : List Item) × (text : List ℕ) × (all ≡ front ++ items) × (length items ≡ count) × SpellEach Part items text × (bytes ≡ text ++ rest)
  unfolding SpellEach read_each
  each-spelled spelled zero front bytes all rest fits e =
      let p = ok_is (front, bytes) (all, rest) e in
      ([], [], sym (ap (λ x. x.0) p) ∙ sym (append-nil front), refl, refl, ap (λ x. x.1) p)
  each-spelled spelled (suc count) front bytes all rest fits e =
      let b = steps_ok (part bytes) (λ x. read_each part count (front ++ x.0 ∷ []) x.1) (all, rest) e in
      let s = spelled bytes b.0.0 b.0.1 fits b.1 in
      let more = each-spelled spelled count (front ++ b.0.0 ∷ []) b.0.1 all rest (IsBytes-after bytes s.0 b.0.1 fits s.2) b.2 in
      (b.0.0 ∷ more.0, s.0 ++ more.1, more.2 ∙ append_assoc front (b.0.0 ∷ []) more.0, ap suc more.3, (s.0, more.1, s.1, more.4, refl), s.2 ∙ ap (λ (t : List ℕ). s.0 ++ t) more.5 ∙ sym (append_assoc s.0 more.1 rest))

  module _ (Inner : List ℕ → ℕ → Why → Type 0) where
    pub each-stops : ReadsSpelled Part part → StopsStuck Inner part → (count : ℕ) (front : List Item) (bytes : List ℕ) (stop : Stop) → IsBytes bytes → read_each part count front bytes ≡ Err stop
        → StuckAfter Part Inner count bytes stop.left stop.why
    unfolding SpellEach read_each
    each-stops spelled stops zero front bytes stop fits e = absurd (ok_err (front, bytes) stop e)
    each-stops spelled stops (suc count) front bytes stop fits e =
        elim (steps_err (part bytes) (λ x. read_each part count (front ++ x.0 ∷ []) x.1) stop e) [
          | inl now ↦ ([], [], bytes, omega arith, refl, stops bytes stop fits now, refl)
          | inr b ↦
              let s = spelled bytes b.0.0 b.0.1 fits b.1 in
              let more = each-stops spelled stops count (front ++ b.0.0 ∷ []) b.0.1 stop (IsBytes-after bytes s.0 b.0.1 fits s.2) b.2 in
              let lt : length more.0 < count = more.3 in
              (b.0.0 ∷ more.0, s.0 ++ more.1, more.2, omega arith, (s.0, more.1, s.1, more.4, refl), more.5, s.2 ∙ ap (λ (t : List ℕ). s.0 ++ t) more.6 ∙ sym (append_assoc s.0 more.1 more.2))
        ]

    pub each-stuck : ReadsAgain Part part → StuckStops Inner part → (count : ℕ) (bytes : List ℕ) (left : ℕ) (why : Why) → StuckAfter Part Inner count bytes left why
        → read_each part count [] bytes ≡ Err (record { left = left; why = why })
    unfolding read_each
    each-stuck again stuck count bytes left why (items, front, rest, lt, s, inner, e) =
        let n : count ≡ length items + suc (count - suc (length items)) = omega arith in
        let reached = each-reaches again items front rest [] (suc (count - suc (length items))) s in
        let stopped : read_each part (suc (count - suc (length items))) items rest ≡ Err (record { left = left; why = why }) = rw (stuck rest left why inner) refl in
        rw (n, e) (reached ∙ stopped)
