-- What a level reads is spelled, and its faults.
use Rattle.std.proofs.Common.{◌≡◌, ℕ, ◌+◌, ◌*◌, ◌<◌, ◌≤◌, ◌⊎◌, Bool, true, false, cond, ◌==◌, List, [], ◌++◌, length, take, drop, Option, Some, None, Result, Ok, Err, refl, sym, ap, subst, ◌∙◌, inl, inr, arith, append_assoc, eq-eqb, ne_eqb, eqb-true, ltb-false}
use Rattle.std.proofs.lemmas.Str.{IsUtf8-from_is_utf8}
use Rattle.std.proofs.lemmas.Bool.{eqb-false}
use Rattle.std.proofs.lemmas.List.{append-nil, length-take, take-append-drop}
use Rattle.cbor_core.specs.declared.words.Grammar.{Grammar}
use Rattle.cbor_core.specs.declared.words.Grammar.TheVariants.{Strict, Wide}
use Rattle.cbor_core.specs.declared.words.Why.{Why}
use Rattle.cbor_core.specs.declared.heads.Size.{Size}
use Rattle.cbor_core.specs.declared.heads.Size.TheVariants.{Within, One, Two, Four, Eight}
use Rattle.cbor_core.specs.declared.heads.Head.{Head}
use Rattle.cbor_core.specs.declared.heads.Stop.{Stop}
use Rattle.cbor_core.specs.declared.tree.Item.{Item}
use Rattle.cbor_core.specs.declared.tree.Node.{Node-F, out-Node}
use Rattle.cbor_core.specs.declared.tree.Node.TheVariants.{Uint, Nint, Bytes, Text, Array, Map, Tag, outs-Uint, outs-Nint, outs-Bytes, outs-Text, outs-Array, outs-Map, outs-Tag, outs-Simple, outs-Float}
use Rattle.cbor_core.specs.Limits.{longest_string, most_parts}
use Rattle.cbor_core.specs.Bytes.{IsBytes}
use Rattle.cbor_core.specs.Tree.{Layer}
use Rattle.cbor_core.specs.Head.{information, limit, MayStand, IsHead, head, head_at, is_reserved}
use Rattle.cbor_core.specs.Spells.{is_strict, SpellsLayer, Headed, IsFloat}
use Rattle.cbor_core.specs.Faults.{row_of, is_float, StuckAtHead, StuckAfter, StuckInPairs, StuckInside}
use Rattle.cbor_core.specs.Reading.{and_then, Reader, judged, opened_by, opened, read_each, read_pairs, read_body, read_leaf, leaf_read, seven, IsOpen}
use Rattle.cbor_core.proofs.LevelLemmas.{level}
use Rattle.cbor_core.proofs.RowLemmas.{IsOpen-from}
use Rattle.cbor_core.proofs.StepLemmas.{IsBytes-after, steps_ok, steps_err, ok_is, err_is, ok_err, err_ok, chosen}
use Rattle.cbor_core.proofs.HeadLemmas.{IsRead, head-read, may_stand}
use Rattle.cbor_core.proofs.PartLemmas.{ReadsAgain, ReadsSpelled, StopsStuck, StuckStops, each-spelled, each-stops, each-stuck}
use Rattle.cbor_core.proofs.PairLemmas.{pairs-spelled, pairs-stop, pairs-stuck}

-- ---- an open head

opened_ok : (g : Grammar) (room left : ℕ) (found : Result (Head × List ℕ) Why) (x : Head × List ℕ) → opened_by g room left found ≡ Ok x → (found ≡ Ok x) × (row_of g room x.0 x.1 ≡ None)
opened_ok g room left (Ok y) x e =
    let row : (o : Option Why) → judged left o y ≡ Ok x → (o ≡ None) × (y ≡ x) = λ o. elim o as (λ o. judged left o y ≡ Ok x → (o ≡ None) × (y ≡ x)) [ None ↦ λ h. (refl, ok_is y x h) | Some why ↦ λ h. absurd (err_ok _ _ h) ] in
    let p = row (row_of g room y.0 y.1) e in
    (ap (λ (z : Head × List ℕ). let r : Result (Head × List ℕ) Why = Ok z in r) p.1, subst (λ (z : Head × List ℕ). row_of g room z.0 z.1 ≡ None) p.1 p.0)
opened_ok g room left (Err why) x e = absurd (err_ok _ _ e)

opened_err : (g : Grammar) (room left : ℕ) (found : Result (Head × List ℕ) Why) (stop : Stop) → opened_by g room left found ≡ Err stop
    → ((found ≡ Err stop.why) ⊎ ((h : Head) × (rest : List ℕ) × (found ≡ Ok (h, rest)) × (row_of g room h rest ≡ Some stop.why))) × (stop.left ≡ left)
opened_err g room left (Ok y) stop e =
    let row : (o : Option Why) → judged left o y ≡ Err stop → (o ≡ Some stop.why) × (stop.left ≡ left) = λ o. elim o as (λ o. judged left o y ≡ Err stop → (o ≡ Some stop.why) × (stop.left ≡ left)) [
      | None ↦ λ h. absurd (ok_err _ _ h)
      | Some why ↦ λ h. (let p = err_is (record { left = left; why = why }) stop h in (ap (λ (s : Stop). Some s.why) p, sym (ap (λ (s : Stop). s.left) p)))
    ] in
    let p = row (row_of g room y.0 y.1) e in
    (inr (y.0, y.1, refl, p.0), p.1)
opened_err g room left (Err why) stop e =
    let p = err_is (record { left = left; why = why }) stop e in
    (inl (ap (λ (s : Stop). let r : Result (Head × List ℕ) Why = Err s.why in r) p), sym (ap (λ (s : Stop). s.left) p))

-- a head that is open was read, and is open
opened_read : (g : Grammar) (room : ℕ) (bytes : List ℕ) (h : Head) (rest : List ℕ) → IsBytes bytes → opened g room bytes ≡ Ok (h, rest) → IsRead bytes h rest × IsOpen g room h rest
opened_read g room bytes h rest fits e =
    let p = opened_ok g room (length bytes) (head_at bytes) (h, rest) e in
    let read = head-read bytes h rest fits p.0 in
    (read, IsOpen-from g room h rest read.major read.fits p.1)

-- a float is spelled where the grammar isn't strict
float_spells : (g : Grammar) (width bits : ℕ) (text : List ℕ) → (is_strict g ≡ true → ⊥) → IsFloat Wide width bits text → IsFloat g width bits text
float_spells Strict width bits text h f = absurd (h refl)
float_spells Wide width bits text h f = f

true_false : ◌≡◌ {A = Bool} true false → ⊥
true_false e = cc

-- ---- what is read is spelled

module _ (g : Grammar) (room : ℕ) (Part : Item → List ℕ → Type 0) (part : Reader) where
  abbrev Read : Type 0
  Read = Item × List ℕ

  -- behind a head, the content of an item and what follows it
  abbrev Body : Head → List ℕ → Read → Type 0
  Body h bytes y = (content : List ℕ) × SpellsLayer g room Part (out-Node y.0.node) (head h.major h.size h.argument ++ content) × (bytes ≡ content ++ y.1)

  stands : (h : Head) (bytes : List ℕ) → IsOpen g room h bytes → h.major < 7 → MayStand g h.size h.argument
  stands h bytes o lt = may_stand g h.size h.argument o.argument (λ s. o.shortest s lt)

  -- the head of a number that is the argument
  is_head : (h : Head) (bytes : List ℕ) (major n : ℕ) → IsOpen g room h bytes → h.major ≡ major → n ≡ h.argument → h.major < 7 → IsHead g major n (head h.major h.size h.argument)
  is_head h bytes major n o m e lt = (h.size, subst (λ (k : ℕ). MayStand g h.size k) (sym e) (stands h bytes o lt), λ i. head (m i) h.size (sym e i))

  moved : (h : Head) (bytes : List ℕ) (x y : Read) → ◌≡◌ {A = Result Read Stop} (Ok x) (Ok y) → Body h bytes x → Body h bytes y
  moved h bytes x y e b = subst (λ (z : Read). Body h bytes z) (ok_is x y e) b

  array_spelled : ReadsSpelled Part part → (h : Head) (bytes : List ℕ) (y : Read) → IsBytes bytes → IsOpen g room h bytes → h.major ≡ 4 → and_then (read_each part h.argument [] bytes) (λ x. Ok (record { node = Array x.0 }, x.1)) ≡ Ok y → Body h bytes y
  array_spelled spelled h bytes y fits o m e =
      let b = steps_ok (read_each part h.argument [] bytes) (λ x. Ok (record { node = Array x.0 }, x.1)) y e in
      let x = b.0 in
      let s = each-spelled Part part spelled h.argument [] bytes x.0 x.1 fits b.1 in
      let items = s.0 in
      let text = s.1 in
      let count : length items ≡ h.argument = s.3 in
      let layer : SpellsLayer g room Part (Node-F.Array items) (head h.major h.size h.argument ++ text) = (o.room_left (omega arith) (omega arith), let few : h.argument ≤ most_parts = o.list_limit (omega arith) (omega arith) in omega arith, (head h.major h.size h.argument, text, is_head h bytes 4 (length items) o m count (omega arith), s.4, refl)) in
      let found : Body h bytes (record { node = Array items }, x.1) = (text, subst (λ (l : Layer). SpellsLayer g room Part l (head h.major h.size h.argument ++ text)) (sym (outs-Array items)) layer, s.5) in
      let same : ◌≡◌ {A = Read} (record { node = Array items }, x.1) (record { node = Array x.0 }, x.1) = ap (λ (l : List Item). (record { node = Array l }, x.1)) (sym s.2) in
      moved h bytes (record { node = Array x.0 }, x.1) y b.2 (subst (λ (z : Read). Body h bytes z) same found)

  map_spelled : ReadsSpelled Part part → (h : Head) (bytes : List ℕ) (y : Read) → IsBytes bytes → IsOpen g room h bytes → h.major ≡ 5 → and_then (read_pairs g part h.argument [] [] bytes) (λ x. Ok (record { node = Map x.0 }, x.1)) ≡ Ok y → Body h bytes y
  map_spelled spelled h bytes y fits o m e =
      let b = steps_ok (read_pairs g part h.argument [] [] bytes) (λ x. Ok (record { node = Map x.0 }, x.1)) y e in
      let x = b.0 in
      let s = pairs-spelled g Part part spelled h.argument [] [] bytes x.0 x.1 fits b.1 in
      let pairs = s.0 in
      let text = s.1 in
      let count : length pairs ≡ h.argument = s.3 in
      let layer : SpellsLayer g room Part (Node-F.Map pairs) (head h.major h.size h.argument ++ text) = (o.room_left (omega arith) (omega arith), let few : h.argument ≤ most_parts = o.list_limit (omega arith) (omega arith) in omega arith, (head h.major h.size h.argument, text, is_head h bytes 5 (length pairs) o m count (omega arith), s.4, refl)) in
      let found : Body h bytes (record { node = Map pairs }, x.1) = (text, subst (λ (l : Layer). SpellsLayer g room Part l (head h.major h.size h.argument ++ text)) (sym (outs-Map pairs)) layer, s.5) in
      let same : ◌≡◌ {A = Read} (record { node = Map pairs }, x.1) (record { node = Map x.0 }, x.1) = ap (λ (l : List (Item × Item)). (record { node = Map l }, x.1)) (sym s.2) in
      moved h bytes (record { node = Map x.0 }, x.1) y b.2 (subst (λ (z : Read). Body h bytes z) same found)

  tag_spelled : ReadsSpelled Part part → (h : Head) (bytes : List ℕ) (y : Read) → IsBytes bytes → IsOpen g room h bytes → h.major ≡ 6 → and_then (part bytes) (λ x. Ok (record { node = Tag h.argument x.0 }, x.1)) ≡ Ok y → Body h bytes y
  tag_spelled spelled h bytes y fits o m e =
      let b = steps_ok (part bytes) (λ x. Ok (record { node = Tag h.argument x.0 }, x.1)) y e in
      let x = b.0 in
      let s = spelled bytes x.0 x.1 fits b.1 in
      let layer : SpellsLayer g room Part (Node-F.Tag h.argument x.0) (head h.major h.size h.argument ++ s.0) = (o.room_left (omega arith) (omega arith), (head h.major h.size h.argument, s.0, is_head h bytes 6 h.argument o m refl (omega arith), s.1, refl)) in
      moved h bytes (record { node = Tag h.argument x.0 }, x.1) y b.2 (s.0, subst (λ (l : Layer). SpellsLayer g room Part l (head h.major h.size h.argument ++ s.0)) (sym (outs-Tag h.argument x.0)) layer, s.2)

  -- an item with no content
  bare : (h : Head) (bytes : List ℕ) (item : Item) → SpellsLayer g room Part (out-Node item.node) (head h.major h.size h.argument) → Body h bytes (item, bytes)
  bare h bytes item s = ([], subst (λ (t : List ℕ). SpellsLayer g room Part (out-Node item.node) t) (sym (append-nil (head h.major h.size h.argument))) s, refl)

  string_head : (h : Head) (bytes : List ℕ) (major : ℕ) → IsOpen g room h bytes → h.major ≡ major → h.major < 7 → h.argument ≤ length bytes
      → Headed g major (length (take h.argument bytes)) (λ r. r ≡ take h.argument bytes) (head h.major h.size h.argument ++ take h.argument bytes)
  string_head h bytes major o m lt long = (head h.major h.size h.argument, take h.argument bytes, is_head h bytes major (length (take h.argument bytes)) o m (omega (arith, length-take h.argument bytes)) lt, refl, refl)

  bytes_spelled : (h : Head) (bytes : List ℕ) → IsOpen g room h bytes → h.major ≡ 2 → Body h bytes (record { node = Bytes (take h.argument bytes) }, drop h.argument bytes)
  bytes_spelled h bytes o m =
      let long = o.content (omega arith) (omega arith) in
      let few : h.argument ≤ longest_string = o.string_limit (omega arith) (omega arith) in
      let content = take h.argument bytes in
      let layer : SpellsLayer g room Part (Node-F.Bytes content) (head h.major h.size h.argument ++ content) = (omega (arith, length-take h.argument bytes), string_head h bytes 2 o m (omega arith) long) in
      (content, subst (λ (l : Layer). SpellsLayer g room Part l (head h.major h.size h.argument ++ content)) (sym (outs-Bytes content)) layer, sym (take-append-drop h.argument bytes))

  text_spelled : (h : Head) (bytes : List ℕ) → IsOpen g room h bytes → h.major ≡ 3 → Body h bytes (record { node = Text (take h.argument bytes) }, drop h.argument bytes)
  text_spelled h bytes o m =
      let long = o.content (omega arith) (omega arith) in
      let few : h.argument ≤ longest_string = o.string_limit (omega arith) (omega arith) in
      let content = take h.argument bytes in
      let layer : SpellsLayer g room Part (Node-F.Text content) (head h.major h.size h.argument ++ content) = (omega (arith, length-take h.argument bytes), IsUtf8-from_is_utf8 content (o.text m), string_head h bytes 3 o m (omega arith) long) in
      (content, subst (λ (l : Layer). SpellsLayer g room Part l (head h.major h.size h.argument ++ content)) (sym (outs-Text content)) layer, sym (take-append-drop h.argument bytes))

  uint_spelled : (h : Head) (bytes : List ℕ) → IsOpen g room h bytes → h.major ≡ 0 → Body h bytes (record { node = Uint h.argument }, bytes)
  uint_spelled h bytes o m = bare h bytes (record { node = Uint h.argument }) (subst (λ (l : Layer). SpellsLayer g room Part l (head h.major h.size h.argument)) (sym (outs-Uint h.argument)) (is_head h bytes 0 h.argument o m refl (omega arith)))

  nint_spelled : (h : Head) (bytes : List ℕ) → IsOpen g room h bytes → h.major ≡ 1 → Body h bytes (record { node = Nint h.argument }, bytes)
  nint_spelled h bytes o m = bare h bytes (record { node = Nint h.argument }) (subst (λ (l : Layer). SpellsLayer g room Part l (head h.major h.size h.argument)) (sym (outs-Nint h.argument)) (is_head h bytes 1 h.argument o m refl (omega arith)))

  seven_layer : (size : Size) (n : ℕ) → n < limit size → (is_strict g ≡ true → is_float size ≡ false) → is_reserved (32 * 7 + information size n) n ≡ false → SpellsLayer g room Part (out-Node (seven size n).node) (head 7 size n)
  seven_layer Within n lt no_float free = subst (λ (l : Layer). SpellsLayer g room Part l (head 7 Within n)) (sym (outs-Simple n)) (inl (lt, refl))
  seven_layer One n lt no_float free = subst (λ (l : Layer). SpellsLayer g room Part l (head 7 One n)) (sym (outs-Simple n)) (inr (ltb-false n 32 free, lt, refl))
  seven_layer Two n lt no_float free = subst (λ (l : Layer). SpellsLayer g room Part l (head 7 Two n)) (sym (outs-Float 2 n)) (float_spells g 2 n (head 7 Two n) (λ s. true_false (no_float s)) (inl (refl, lt, refl)))
  seven_layer Four n lt no_float free = subst (λ (l : Layer). SpellsLayer g room Part l (head 7 Four n)) (sym (outs-Float 4 n)) (float_spells g 4 n (head 7 Four n) (λ s. true_false (no_float s)) (inr (inl (refl, lt, refl))))
  seven_layer Eight n lt no_float free = subst (λ (l : Layer). SpellsLayer g room Part l (head 7 Eight n)) (sym (outs-Float 8 n)) (float_spells g 8 n (head 7 Eight n) (λ s. true_false (no_float s)) (inr (inr (refl, lt, refl))))

  seven_spelled : (h : Head) (bytes : List ℕ) → IsOpen g room h bytes → is_reserved (32 * h.major + information h.size h.argument) h.argument ≡ false → h.major ≡ 7 → Body h bytes (seven h.size h.argument, bytes)
  seven_spelled h bytes o free m =
      let free' = subst (λ (k : ℕ). is_reserved (32 * k + information h.size h.argument) h.argument ≡ false) m free in
      let layer = seven_layer h.size h.argument o.argument (λ s. o.no_float s m) free' in
      bare h bytes (seven h.size h.argument) (subst (λ (k : ℕ). SpellsLayer g room Part (out-Node (seven h.size h.argument).node) (head k h.size h.argument)) (sym m) layer)

  leaf_spelled : (h : Head) (bytes : List ℕ) (y : Read) → IsOpen g room h bytes → is_reserved (32 * h.major + information h.size h.argument) h.argument ≡ false → (4 ≤ h.major → h.major ≡ 7) → read_leaf h bytes ≡ y → Body h bytes y
  leaf_spelled h bytes y o free last e =
      let x0 : Read = (record { node = Uint h.argument }, bytes) in
      let x1 : Read = (record { node = Nint h.argument }, bytes) in
      let x2 : Read = (record { node = Bytes (take h.argument bytes) }, drop h.argument bytes) in
      let x3 : Read = (record { node = Text (take h.argument bytes) }, drop h.argument bytes) in
      let x7 : Read = (seven h.size h.argument, bytes) in
      let c3 : Read = cond (h.major == 3) x3 x7 in
      let c2 : Read = cond (h.major == 2) x2 c3 in
      let c1 : Read = cond (h.major == 1) x1 c2 in
      elim (chosen (h.major == 0) x0 c1 y e) [
        | inl p ↦ subst (λ (z : Read). Body h bytes z) p.1 (uint_spelled h bytes o (eqb-true h.major 0 p.0))
        | inr p ↦ elim (chosen (h.major == 1) x1 c2 y p.1) [
          | inl q ↦ subst (λ (z : Read). Body h bytes z) q.1 (nint_spelled h bytes o (eqb-true h.major 1 q.0))
          | inr q ↦ elim (chosen (h.major == 2) x2 c3 y q.1) [
            | inl r ↦ subst (λ (z : Read). Body h bytes z) r.1 (bytes_spelled h bytes o (eqb-true h.major 2 r.0))
            | inr r ↦ elim (chosen (h.major == 3) x3 x7 y r.1) [
              | inl s ↦ subst (λ (z : Read). Body h bytes z) s.1 (text_spelled h bytes o (eqb-true h.major 3 s.0))
              | inr s ↦
                  let n0 = eqb-false h.major 0 p.0 in
                  let n1 = eqb-false h.major 1 q.0 in
                  let n2 = eqb-false h.major 2 r.0 in
                  let n3 = eqb-false h.major 3 s.0 in
                  subst (λ (z : Read). Body h bytes z) s.1 (seven_spelled h bytes o free (last (omega (arith, n0, n1, n2, n3))))
            ]
          ]
        ]
      ]

  body_spelled : ReadsSpelled Part part → (h : Head) (bytes : List ℕ) (y : Read) → IsBytes bytes → IsOpen g room h bytes → is_reserved (32 * h.major + information h.size h.argument) h.argument ≡ false → read_body g part h bytes ≡ Ok y → Body h bytes y
  body_spelled spelled h bytes y fits o free e =
      let x4 : Result Read Stop = and_then (read_each part h.argument [] bytes) (λ x. Ok (record { node = Array x.0 }, x.1)) in
      let x5 : Result Read Stop = and_then (read_pairs g part h.argument [] [] bytes) (λ x. Ok (record { node = Map x.0 }, x.1)) in
      let x6 : Result Read Stop = and_then (part bytes) (λ x. Ok (record { node = Tag h.argument x.0 }, x.1)) in
      let x7 : Result Read Stop = leaf_read h bytes in
      let c6 : Result Read Stop = cond (h.major == 6) x6 x7 in
      let c5 : Result Read Stop = cond (h.major == 5) x5 c6 in
      elim (chosen (h.major == 4) x4 c5 (Ok y) e) [
        | inl p ↦ array_spelled spelled h bytes y fits o (eqb-true h.major 4 p.0) p.1
        | inr p ↦ elim (chosen (h.major == 5) x5 c6 (Ok y) p.1) [
          | inl q ↦ map_spelled spelled h bytes y fits o (eqb-true h.major 5 q.0) q.1
          | inr q ↦ elim (chosen (h.major == 6) x6 x7 (Ok y) q.1) [
            | inl r ↦ tag_spelled spelled h bytes y fits o (eqb-true h.major 6 r.0) r.1
            | inr r ↦
                let n4 = eqb-false h.major 4 p.0 in
                let n5 = eqb-false h.major 5 q.0 in
                let n6 = eqb-false h.major 6 r.0 in
                let small : h.major < 8 = o.major in
                leaf_spelled h bytes y o free (λ le. omega (arith, n4, n5, n6)) (ok_is (read_leaf h bytes) y r.1)
          ]
        ]
      ]

  pub level-spelled : ReadsSpelled Part part → (bytes : List ℕ) (item : Item) (rest : List ℕ) → IsBytes bytes → level g room part bytes ≡ Ok (item, rest) → (text : List ℕ) × SpellsLayer g room Part (out-Node item.node) text × (bytes ≡ text ++ rest)
  level-spelled spelled bytes item rest fits e =
      let b = steps_ok (opened g room bytes) (λ x. read_body g part x.0 x.1) (item, rest) e in
      let h = b.0.0 in
      let after = b.0.1 in
      let p = opened_read g room bytes h after fits b.1 in
      let front = head h.major h.size h.argument in
      let s = body_spelled spelled h after (item, rest) (IsBytes-after bytes front after fits p.0.parts) p.1 p.0.free b.2 in
      (front ++ s.0, s.1, p.0.parts ∙ ap (λ (t : List ℕ). front ++ t) s.2 ∙ sym (append_assoc front s.0 rest))

  -- ---- what stops is stuck

  module _ (Inner : List ℕ → ℕ → Why → Type 0) where
    abbrev Inside : Head → List ℕ → ℕ → Why → Type 0
    Inside h rest left why = ((h.major ≡ 4) × StuckAfter Part Inner h.argument rest left why) ⊎ (((h.major ≡ 5) × StuckInPairs g Part Inner h.argument [] [] rest left why) ⊎ ((h.major ≡ 6) × Inner rest left why))

    body_stops : ReadsSpelled Part part → StopsStuck Inner part → (h : Head) (bytes : List ℕ) (stop : Stop) → IsBytes bytes → read_body g part h bytes ≡ Err stop → Inside h bytes stop.left stop.why
    body_stops spelled stops h bytes stop fits e =
        let x4 : Result Read Stop = and_then (read_each part h.argument [] bytes) (λ x. Ok (record { node = Array x.0 }, x.1)) in
        let x5 : Result Read Stop = and_then (read_pairs g part h.argument [] [] bytes) (λ x. Ok (record { node = Map x.0 }, x.1)) in
        let x6 : Result Read Stop = and_then (part bytes) (λ x. Ok (record { node = Tag h.argument x.0 }, x.1)) in
        let x7 : Result Read Stop = leaf_read h bytes in
        let c6 : Result Read Stop = cond (h.major == 6) x6 x7 in
        let c5 : Result Read Stop = cond (h.major == 5) x5 c6 in
        elim (chosen (h.major == 4) x4 c5 (Err stop) e) [
          | inl p ↦ elim (steps_err (read_each part h.argument [] bytes) (λ x. Ok (record { node = Array x.0 }, x.1)) stop p.1) [
            | inl now ↦ inl (eqb-true h.major 4 p.0, each-stops Part part Inner spelled stops h.argument [] bytes stop fits now)
            | inr b ↦ absurd (ok_err _ _ b.2)
          ]
          | inr p ↦ elim (chosen (h.major == 5) x5 c6 (Err stop) p.1) [
            | inl q ↦ elim (steps_err (read_pairs g part h.argument [] [] bytes) (λ x. Ok (record { node = Map x.0 }, x.1)) stop q.1) [
              | inl now ↦ inr (inl (eqb-true h.major 5 q.0, pairs-stop g Part part Inner spelled stops h.argument [] [] bytes stop fits now))
              | inr b ↦ absurd (ok_err _ _ b.2)
            ]
            | inr q ↦ elim (chosen (h.major == 6) x6 x7 (Err stop) q.1) [
              | inl r ↦ elim (steps_err (part bytes) (λ x. Ok (record { node = Tag h.argument x.0 }, x.1)) stop r.1) [
                | inl now ↦ inr (inr (eqb-true h.major 6 r.0, stops bytes stop fits now))
                | inr b ↦ absurd (ok_err _ _ b.2)
              ]
              | inr r ↦ absurd (ok_err _ _ r.1)
            ]
          ]
        ]

    abbrev LevelStuck : List ℕ → ℕ → Why → Type 0
    LevelStuck bytes left why = (StuckAtHead g room bytes why × (left ≡ length bytes)) ⊎ StuckInside g room Part Inner bytes left why

    pub level-stops : ReadsSpelled Part part → StopsStuck Inner part → (bytes : List ℕ) (stop : Stop) → IsBytes bytes → level g room part bytes ≡ Err stop → LevelStuck bytes stop.left stop.why
    level-stops spelled stops bytes stop fits e =
        elim (steps_err (opened g room bytes) (λ x. read_body g part x.0 x.1) stop e) [
          | inl now ↦ inl (opened_err g room (length bytes) (head_at bytes) stop now)
          | inr b ↦
              let h = b.0.0 in
              let after = b.0.1 in
              let ok = opened_ok g room (length bytes) (head_at bytes) (h, after) b.1 in
              let read = head-read bytes h after fits ok.0 in
              inr (h, after, ok.0, ok.1, body_stops spelled stops h after stop (IsBytes-after bytes (head h.major h.size h.argument) after fits read.parts) b.2)
        ]

    body_4 : (h : Head) (bytes : List ℕ) → h.major ≡ 4 → read_body g part h bytes ≡ and_then (read_each part h.argument [] bytes) (λ x. Ok (record { node = Array x.0 }, x.1))
    body_4 h bytes m = rw (eq-eqb h.major 4 m) refl

    body_5 : (h : Head) (bytes : List ℕ) → h.major ≡ 5 → read_body g part h bytes ≡ and_then (read_pairs g part h.argument [] [] bytes) (λ x. Ok (record { node = Map x.0 }, x.1))
    body_5 h bytes m = rw (ne_eqb h.major 4 (λ e. absurd (omega arith)), eq-eqb h.major 5 m) refl

    body_6 : (h : Head) (bytes : List ℕ) → h.major ≡ 6 → read_body g part h bytes ≡ and_then (part bytes) (λ x. Ok (record { node = Tag h.argument x.0 }, x.1))
    body_6 h bytes m = rw (ne_eqb h.major 4 (λ e. absurd (omega arith)), ne_eqb h.major 5 (λ e. absurd (omega arith)), eq-eqb h.major 6 m) refl

    body_stuck : ReadsAgain Part part → StuckStops Inner part → (h : Head) (bytes : List ℕ) (left : ℕ) (why : Why) → Inside h bytes left why → read_body g part h bytes ≡ Err (record { left = left; why = why })
    body_stuck again stuck h bytes left why (inl (m, w)) = body_4 h bytes m ∙ ap (λ r. and_then r (λ x. Ok (record { node = Array x.0 }, x.1))) (each-stuck Part part Inner again stuck h.argument bytes left why w)
    body_stuck again stuck h bytes left why (inr (inl (m, w))) = body_5 h bytes m ∙ ap (λ r. and_then r (λ x. Ok (record { node = Map x.0 }, x.1))) (pairs-stuck g Part part Inner again stuck h.argument [] [] bytes left why w)
    body_stuck again stuck h bytes left why (inr (inr (m, w))) = body_6 h bytes m ∙ ap (λ r. and_then r (λ x. Ok (record { node = Tag h.argument x.0 }, x.1))) (stuck bytes left why w)

    pub level-stuck : ReadsAgain Part part → StuckStops Inner part → (bytes : List ℕ) (left : ℕ) (why : Why) → LevelStuck bytes left why → level g room part bytes ≡ Err (record { left = left; why = why })
    level-stuck again stuck bytes left why (inl (inl e, l)) =
        let opened_is : opened g room bytes ≡ Err (record { left = length bytes; why = why }) = ap (λ r. opened_by g room (length bytes) r) e in
        ap (λ r. and_then r (λ x. read_body g part x.0 x.1)) opened_is ∙ ap (λ (n : ℕ). Err (record { left = n; why = why })) (sym l)
    level-stuck again stuck bytes left why (inl (inr (h, rest, e, row), l)) =
        let opened_is : opened g room bytes ≡ Err (record { left = length bytes; why = why }) = ap (λ r. opened_by g room (length bytes) r) e ∙ ap (λ o. judged (length bytes) o (h, rest)) row in
        ap (λ r. and_then r (λ x. read_body g part x.0 x.1)) opened_is ∙ ap (λ (n : ℕ). Err (record { left = n; why = why })) (sym l)
    level-stuck again stuck bytes left why (inr (h, rest, e, row, w)) =
        let opened_is : opened g room bytes ≡ Ok (h, rest) = ap (λ r. opened_by g room (length bytes) r) e ∙ ap (λ o. judged (length bytes) o (h, rest)) row in
        ap (λ r. and_then r (λ x. read_body g part x.0 x.1)) opened_is ∙ body_stuck again stuck h rest left why w
