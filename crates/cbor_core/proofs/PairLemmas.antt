-- The pairs of a map, one after the other.
use Rattle.std.proofs.Common.{◌≡◌, ℕ, zero, suc, List, [], ◌∷◌, ◌++◌, length, Some, None, Result, Ok, Err, refl, sym, ap, subst, ◌∙◌, inl, inr, append_assoc}
use Rattle.std.proofs.lemmas.List.{append-nil}
use Rattle.cbor_core.specs.declared.words.Grammar.{Grammar}
use Rattle.cbor_core.specs.declared.words.Why.{Why}
use Rattle.cbor_core.specs.declared.heads.Stop.{Stop}
use Rattle.cbor_core.specs.declared.tree.Item.{Item}
use Rattle.cbor_core.specs.Bytes.{IsBytes}
use Rattle.cbor_core.specs.Spells.{key_row, SpellPairs}
use Rattle.cbor_core.specs.Faults.{StuckAtPair, StuckInPairs}
use Rattle.cbor_core.specs.Reading.{and_then, Reader, judged, front_of, read_value, read_keyed, read_pair, read_pairs}
use Rattle.cbor_core.proofs.StepLemmas.{IsBytes-after, steps_ok, steps_err, judged_ok, judged_err, ok_is, ok_err, front-is}
use Rattle.cbor_core.proofs.PartLemmas.{ReadsAgain, ReadsSpelled, StopsStuck, StuckStops}

abbrev Pair : Type 0
Pair = Item × Item

abbrev Found : Type 0
Found = Pair × (List ℕ × List ℕ)

module _ (g : Grammar) (Part : Item → List ℕ → Type 0) (part : Reader) where
  abbrev pairs_read : ℕ → List Pair → Found → Result (List Pair × List ℕ) Stop
  pairs_read count earlier x = read_pairs g part count (earlier ++ x.0 ∷ []) x.1.0 x.1.1

  pub pair-again : ReadsAgain Part part → (earlier : List Pair) (last : List ℕ) (pair : Pair) (key value rest : List ℕ) → Part pair.0 key → key_row g earlier last pair.0 key ≡ None → Part pair.1 value
      → read_pair g part earlier last (key ++ (value ++ rest)) ≡ Ok (pair, (key, rest))
  pair-again again earlier last pair key value rest p row q =
      let bytes = key ++ (value ++ rest) in
      let front : front_of bytes (value ++ rest) ≡ key = front-is key (value ++ rest) in
      let row' : key_row g earlier last pair.0 (front_of bytes (value ++ rest)) ≡ None = subst (λ (t : List ℕ). key_row g earlier last pair.0 t ≡ None) (sym front) row in
      let one : read_pair g part earlier last bytes ≡ read_keyed g part earlier last bytes (pair.0, value ++ rest) = ap (λ r. and_then r (read_keyed g part earlier last bytes)) (again pair.0 key (value ++ rest) p) in
      let two : read_keyed g part earlier last bytes (pair.0, value ++ rest) ≡ read_value part bytes (pair.0, value ++ rest) = ap (λ o. and_then (judged (length bytes) o (pair.0, value ++ rest)) (read_value part bytes)) row' in
      let three : read_value part bytes (pair.0, value ++ rest) ≡ Ok (pair, (front_of bytes (value ++ rest), rest)) = ap (λ r. and_then r (λ v. Ok ((pair.0, v.0), (front_of bytes (value ++ rest), v.1)))) (again pair.1 value rest q) in
      one ∙ two ∙ three ∙ ap (λ (t : List ℕ). Ok (pair, (t, rest))) front

  pub pairs-again : ReadsAgain Part part → (pairs : List Pair) (text rest : List ℕ) (earlier : List Pair) (last : List ℕ) → SpellPairs g Part earlier last pairs text
      → read_pairs g part (length pairs) earlier last (text ++ rest) ≡ Ok (earlier ++ pairs, rest)
  unfolding SpellPairs read_pairs
  pairs-again again [] text rest earlier last e = rw (e, append-nil earlier) refl
  pairs-again again (pair ∷ pairs) text rest earlier last (key, value, more, p, row, q, s, e) =
      let bytes : text ++ rest ≡ key ++ (value ++ (more ++ rest)) = rw e (append_assoc key (value ++ more) rest ∙ ap (λ (t : List ℕ). key ++ t) (append_assoc value more rest)) in
      let one : read_pairs g part (suc (length pairs)) earlier last (key ++ (value ++ (more ++ rest))) ≡ read_pairs g part (length pairs) (earlier ++ pair ∷ []) key (more ++ rest) = ap (λ r. and_then r (pairs_read (length pairs) earlier)) (pair-again again earlier last pair key value (more ++ rest) p row q) in
      let two = pairs-again again pairs more rest (earlier ++ pair ∷ []) key s in
      ap (λ (b : List ℕ). read_pairs g part (suc (length pairs)) earlier last b) bytes ∙ one ∙ two ∙ ap (λ (f : List Pair). Ok (f, rest)) (append_assoc earlier (pair ∷ []) pairs)

  -- what was read as a pair
  abbrev PairAt : List Pair → List ℕ → List ℕ → Found → Type 0
  PairAt earlier last bytes y = (value : List ℕ) × Part y.0.0 y.1.0 × (key_row g earlier last y.0.0 y.1.0 ≡ None) × Part y.0.1 value × (bytes ≡ y.1.0 ++ (value ++ y.1.1))

  front_at : (bytes text rest : List ℕ) → bytes ≡ text ++ rest → front_of bytes rest ≡ text
  front_at bytes text rest e = ap (λ (b : List ℕ). front_of b rest) e ∙ front-is text rest

  pub pair-spelled : ReadsSpelled Part part → (earlier : List Pair) (last bytes : List ℕ) (y : Found) → IsBytes bytes → read_pair g part earlier last bytes ≡ Ok y → PairAt earlier last bytes y
  pair-spelled spelled earlier last bytes y fits e =
      let b = steps_ok (part bytes) (read_keyed g part earlier last bytes) y e in
      let k = b.0 in
      let s = spelled bytes k.0 k.1 fits b.1 in
      let front = front_at bytes s.0 k.1 s.2 in
      let j = judged_ok (length bytes) (key_row g earlier last k.0 (front_of bytes k.1)) k (read_value part bytes) y b.2 in
      let row = subst (λ (t : List ℕ). key_row g earlier last k.0 t ≡ None) front j.0 in
      let c = steps_ok (part k.1) (λ v. Ok ((k.0, v.0), (front_of bytes k.1, v.1))) y j.1 in
      let v = c.0 in
      let t = spelled k.1 v.0 v.1 (IsBytes-after bytes s.0 k.1 fits s.2) c.1 in
      let found : PairAt earlier last bytes ((k.0, v.0), (s.0, v.1)) = (t.0, s.1, row, t.1, s.2 ∙ ap (λ (r : List ℕ). s.0 ++ r) t.2) in
      let same : ◌≡◌ {A = Found} ((k.0, v.0), (s.0, v.1)) y = ap (λ (r : List ℕ). ((k.0, v.0), (r, v.1))) (sym front) ∙ ok_is ((k.0, v.0), (front_of bytes k.1, v.1)) y c.2 in
      subst (λ (z : Found). PairAt earlier last bytes z) same found

  pub pairs-spelled : ReadsSpelled Part part → (count : ℕ) (earlier : List Pair) (last bytes : List ℕ) (all : List Pair) (rest : List ℕ) → IsBytes bytes → read_pairs g part count earlier last bytes ≡ Ok (all, rest)
      → (pairs : List Pair) × (text : List ℕ) × (all ≡ earlier ++ pairs) × (length pairs ≡ count) × SpellPairs g Part earlier last pairs text × (bytes ≡ text ++ rest)
  unfolding SpellPairs read_pairs
  pairs-spelled spelled zero earlier last bytes all rest fits e =
      let p = ok_is (earlier, bytes) (all, rest) e in
      ([], [], sym (ap (λ x. x.0) p) ∙ sym (append-nil earlier), refl, refl, ap (λ x. x.1) p)
  pairs-spelled spelled (suc count) earlier last bytes all rest fits e =
      let b = steps_ok (read_pair g part earlier last bytes) (pairs_read count earlier) (all, rest) e in
      let y = b.0 in
      let s = pair-spelled spelled earlier last bytes y fits b.1 in
      let value = s.0 in
      let after : bytes ≡ (y.1.0 ++ value) ++ y.1.1 = s.4 ∙ sym (append_assoc y.1.0 value y.1.1) in
      let more = pairs-spelled spelled count (earlier ++ y.0 ∷ []) y.1.0 y.1.1 all rest (IsBytes-after bytes (y.1.0 ++ value) y.1.1 fits after) b.2 in
      let text = y.1.0 ++ (value ++ more.1) in
      let whole : bytes ≡ text ++ rest = s.4 ∙ ap (λ (t : List ℕ). y.1.0 ++ (value ++ t)) more.5 ∙ ap (λ (t : List ℕ). y.1.0 ++ t) (sym (append_assoc value more.1 rest)) ∙ sym (append_assoc y.1.0 (value ++ more.1) rest) in
      (y.0 ∷ more.0, text, more.2 ∙ append_assoc earlier (y.0 ∷ []) more.0, ap suc more.3, (y.1.0, value, more.1, s.1, s.2, s.3, more.4, refl), whole)

  module _ (Inner : List ℕ → ℕ → Why → Type 0) where
    pub pair-stops : ReadsSpelled Part part → StopsStuck Inner part → (earlier : List Pair) (last bytes : List ℕ) (stop : Stop) → IsBytes bytes → read_pair g part earlier last bytes ≡ Err stop
        → StuckAtPair g Part Inner earlier last bytes stop.left stop.why
    pair-stops spelled stops earlier last bytes stop fits e =
        elim (steps_err (part bytes) (read_keyed g part earlier last bytes) stop e) [
          | inl now ↦ inl (stops bytes stop fits now)
          | inr b ↦
              let k = b.0 in
              let s = spelled bytes k.0 k.1 fits b.1 in
              let front = front_at bytes s.0 k.1 s.2 in
              elim (judged_err (length bytes) (key_row g earlier last k.0 (front_of bytes k.1)) k (read_value part bytes) stop b.2) [
                | inl bad ↦ inr (k.0, s.0, k.1, s.1, s.2, inl (subst (λ (t : List ℕ). key_row g earlier last k.0 t ≡ Some stop.why) front bad.0, bad.1))
                | inr good ↦
                    let row = subst (λ (t : List ℕ). key_row g earlier last k.0 t ≡ None) front good.0 in
                    elim (steps_err (part k.1) (λ v. Ok ((k.0, v.0), (front_of bytes k.1, v.1))) stop good.1) [
                      | inl now ↦ inr (k.0, s.0, k.1, s.1, s.2, inr (row, stops k.1 stop (IsBytes-after bytes s.0 k.1 fits s.2) now))
                      | inr c ↦ absurd (ok_err _ _ c.2)
                    ]
              ]
        ]

    pub pairs-stop : ReadsSpelled Part part → StopsStuck Inner part → (count : ℕ) (earlier : List Pair) (last bytes : List ℕ) (stop : Stop) → IsBytes bytes → read_pairs g part count earlier last bytes ≡ Err stop
        → StuckInPairs g Part Inner count earlier last bytes stop.left stop.why
    unfolding StuckInPairs read_pairs
    pairs-stop spelled stops zero earlier last bytes stop fits e = ok_err (earlier, bytes) stop e
    pairs-stop spelled stops (suc count) earlier last bytes stop fits e =
        elim (steps_err (read_pair g part earlier last bytes) (pairs_read count earlier) stop e) [
          | inl now ↦ inl (pair-stops spelled stops earlier last bytes stop fits now)
          | inr b ↦
              let y = b.0 in
              let s = pair-spelled spelled earlier last bytes y fits b.1 in
              let value = s.0 in
              let after : bytes ≡ (y.1.0 ++ value) ++ y.1.1 = s.4 ∙ sym (append_assoc y.1.0 value y.1.1) in
              let more = pairs-stop spelled stops count (earlier ++ y.0 ∷ []) y.1.0 y.1.1 stop (IsBytes-after bytes (y.1.0 ++ value) y.1.1 fits after) b.2 in
              inr (y.0, y.1.0, value, y.1.1, s.1, s.2, s.3, s.4, more)
        ]

    pub pair-stuck : ReadsAgain Part part → StuckStops Inner part → (earlier : List Pair) (last bytes : List ℕ) (left : ℕ) (why : Why) → StuckAtPair g Part Inner earlier last bytes left why
        → read_pair g part earlier last bytes ≡ Err (record { left = left; why = why })
    pair-stuck again stuck earlier last bytes left why (inl inner) = ap (λ r. and_then r (read_keyed g part earlier last bytes)) (stuck bytes left why inner)
    pair-stuck again stuck earlier last bytes left why (inr (item, key, rest, p, e, w)) =
        let front = front_at bytes key rest e in
        let one : read_pair g part earlier last bytes ≡ read_keyed g part earlier last bytes (item, rest) = ap (λ r. and_then r (read_keyed g part earlier last bytes)) (ap part e ∙ again item key rest p) in
        elim w [
          | inl (row, l) ↦
              let bad : key_row g earlier last item (front_of bytes rest) ≡ Some why = subst (λ (t : List ℕ). key_row g earlier last item t ≡ Some why) (sym front) row in
              one ∙ ap (λ o. and_then (judged (length bytes) o (item, rest)) (read_value part bytes)) bad ∙ ap (λ (n : ℕ). Err (record { left = n; why = why })) (sym l)
          | inr (row, inner) ↦
              let good : key_row g earlier last item (front_of bytes rest) ≡ None = subst (λ (t : List ℕ). key_row g earlier last item t ≡ None) (sym front) row in
              one ∙ ap (λ o. and_then (judged (length bytes) o (item, rest)) (read_value part bytes)) good ∙ ap (λ r. and_then r (λ v. Ok ((item, v.0), (front_of bytes rest, v.1)))) (stuck rest left why inner)
        ]

    pub pairs-stuck : ReadsAgain Part part → StuckStops Inner part → (count : ℕ) (earlier : List Pair) (last bytes : List ℕ) (left : ℕ) (why : Why) → StuckInPairs g Part Inner count earlier last bytes left why
        → read_pairs g part count earlier last bytes ≡ Err (record { left = left; why = why })
    unfolding StuckInPairs read_pairs
    pairs-stuck again stuck zero earlier last bytes left why w = absurd w
    pairs-stuck again stuck (suc count) earlier last bytes left why (inl here) = ap (λ r. and_then r (pairs_read count earlier)) (pair-stuck again stuck earlier last bytes left why here)
    pairs-stuck again stuck (suc count) earlier last bytes left why (inr (pair, key, value, rest, p, row, q, e, more)) =
        let one : read_pairs g part (suc count) earlier last bytes ≡ read_pairs g part count (earlier ++ pair ∷ []) key rest = ap (λ r. and_then r (pairs_read count earlier)) (ap (λ (b : List ℕ). read_pair g part earlier last b) e ∙ pair-again again earlier last pair key value rest p row q) in
        one ∙ pairs-stuck again stuck count (earlier ++ pair ∷ []) key rest left why more
