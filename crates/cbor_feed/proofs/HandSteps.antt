-- A container that is handed its next part comes to what reading says, whatever follows.
use Rattle.std.proofs.Common.{◌≡◌, ◌≢◌, ℕ, zero, suc, ◌-◌, ◌≤◌, Bool, true, false, not, cond, ◌&&◌, List, [], ◌∷◌, ◌++◌, length, take, drop, Option, Some, None, Result, Ok, Err, refl, ap, subst, ◌∙◌, arith, ne_eqb}
use Rattle.std.proofs.lemmas.List.{take-append-le, drop-append-le, length-drop, length-append}
use Rattle.cbor_core.specs.declared.words.Grammar.{Grammar}
use Rattle.cbor_core.specs.declared.words.Grammar.TheVariants.{Strict}
use Rattle.cbor_core.specs.declared.words.Why.{Why}
use Rattle.cbor_core.specs.declared.words.Why.TheVariants.{Truncated, DupKey, KeyOrder}
use Rattle.cbor_core.specs.declared.heads.Stop.{Stop}
use Rattle.cbor_core.specs.declared.tree.Item.{Item}
use Rattle.cbor_core.specs.Bytes.{is_below}
use Rattle.cbor_core.specs.Tree.{is_key}
use Rattle.cbor_core.specs.Spells.{is_strict, key_row, SpellsIn}
use Rattle.cbor_core.specs.Encoding.{no_writer}
use Rattle.cbor_core.specs.Reading.{and_then, judged, Reader, front_of, read_value, read_keyed, read_pair, read_each, read_pairs, read_in, KeysRise, KeyStands}
use Rattle.cbor_core.proofs.KeyLemmas.{strict_only, unique, none-rise}
use Rattle.cbor_core.proofs.StrictLemmas.{risen_past, risen_push, no_key, row_order}
use Rattle.cbor_feed.specs.declared.containers.Container.{Container}
use Rattle.cbor_feed.specs.declared.containers.Container.TheVariants.{Array, Map, Tag as TagOf}
use Rattle.cbor_feed.specs.declared.frames.Span.{Span}
use Rattle.cbor_feed.specs.declared.frames.Parts.{Parts}
use Rattle.cbor_feed.specs.declared.frames.Parts.TheVariants.{Items, Key, Value, Tag}
use Rattle.cbor_feed.specs.declared.frames.Step.{Step}
use Rattle.cbor_feed.specs.declared.frames.Step.TheVariants.{Goes, Whole, Stuck}
use Rattle.cbor_feed.specs.Containers.{array_of, map_of, read_container, HasPart}
use Rattle.cbor_feed.specs.Frames.{span_in, IsIn, AreIn, IsFreshAt, key_judged, items_step, pairs_step, parts_taken}
use Rattle.cbor_feed.specs.Chains.{opened_parts, handed, HasRisen}

abbrev Read : Type 0
Read = Result (Item × List ℕ) Stop

in_turn : {A B C E : Type 0} (r : Result A E) (f : A → Result B E) (next : B → Result C E) → and_then (and_then r f) next ≡ and_then r (λ x. and_then (f x) next)
in_turn (Ok x) f next = refl
in_turn (Err e) f next = refl

-- ---- spans

pub span-more : (held more : List ℕ) (span : Span) → IsIn span held → span_in (held ++ more) span ≡ span_in held span
span-more held more span (a, b) =
    let from : span.from ≤ length held = omega arith in
    let len : span.to - span.from ≤ length (drop span.from held) = omega (arith, length-drop span.from held) in
    ap (λ (s : List ℕ). take (span.to - span.from) s) (drop-append-le span.from held more from) ∙ take-append-le (span.to - span.from) (drop span.from held) more len

pub front-span : (all : List ℕ) (start end : ℕ) → start ≤ end → end ≤ length all → front_of (drop start all) (drop end all) ≡ span_in all (record { from = start; to = end })
front-span all start end a b =
    let n : length (drop start all) - length (drop end all) ≡ end - start = omega (arith, length-drop start all, length-drop end all) in
    ap (λ (k : ℕ). take k (drop start all)) n

-- ---- a container whose head was read

pub opened-parts : (g : Grammar) (part : Reader) (k : Container) (all : List ℕ) (start : ℕ) → HasPart k → read_container g part k (drop start all) ≡ and_then (part (drop start all)) (handed g part (opened_parts k) all start)
unfolding read_each read_pairs
opened-parts g part (Array zero) all start some = absurd (omega arith)
opened-parts g part (Array (suc n)) all start some =
    let one : n ≡ suc n - 1 = omega arith in
    in_turn (part (drop start all)) (λ x. read_each part n ([] ++ x.0 ∷ []) x.1) array_of ∙ ap (λ (m : ℕ). and_then (part (drop start all)) (handed g part (Items m []) all start)) one
opened-parts g part (Map zero) all start some = absurd (omega arith)
opened-parts g part (Map (suc n)) all start some =
    let one : n ≡ suc n - 1 = omega arith in
    let rest = drop start all in
    in_turn (read_pair g part [] [] rest) (λ x. read_pairs g part n ([] ++ x.0 ∷ []) x.1.0 x.1.1) map_of
    ∙ in_turn (part rest) (read_keyed g part [] [] rest) (λ y. and_then (read_pairs g part n ([] ++ y.0 ∷ []) y.1.0 y.1.1) map_of)
    ∙ ap (λ (m : ℕ). and_then (part rest) (handed g part (Key m [] (record { from = 0; to = 0 })) all start)) one
opened-parts g part (TagOf n) all start some = refl

pub opened-in : (k : Container) (held : List ℕ) → AreIn (opened_parts k) held
opened-in (Array n) held = tt
opened-in (Map n) held = (omega arith, omega arith)
opened-in (TagOf n) held = tt

pub opened-risen : (g : Grammar) (room : ℕ) (k : Container) (held : List ℕ) → HasRisen g room (opened_parts k) held
opened-risen g room (Array n) held = tt
opened-risen g room (Map n) held = none-rise g room
opened-risen g room (TagOf n) held = tt

-- ---- a container that is handed a part

-- what the step says of reading
abbrev pub Says : Grammar → ℕ → Parts → List ℕ → ℕ → Item → ℕ → Step → Type 0
Says g room parts held start item end (Goes frame) =
    (frame.start ≡ end) × AreIn frame.parts held × HasRisen g room frame.parts held
    × ((more : List ℕ) → handed g (read_in g room) parts (held ++ more) start (item, drop end (held ++ more)) ≡ and_then (read_in g room (drop frame.start (held ++ more))) (handed g (read_in g room) frame.parts (held ++ more) frame.start))
Says g room parts held start item end (Whole whole) = (more : List ℕ) → handed g (read_in g room) parts (held ++ more) start (item, drop end (held ++ more)) ≡ Ok (whole, drop end (held ++ more))
Says g room parts held start item end (Stuck why) = (why ≢ Truncated) × (handed g (read_in g room) parts held start (item, drop end held) ≡ Err (record { left = length (drop start held); why = why }))

-- a key's row is never that the bytes end
row_why : (k b s : Bool) (why : Why) → ◌≡◌ {A = Option Why} (cond k (Some DupKey) (cond b (Some KeyOrder) None)) (Some why) → why ≢ Truncated
row_why true b s why e is = absurd cc
row_why false true s why e is = absurd cc
row_why false false s why e is = absurd cc

key_risen : (g : Grammar) (room : ℕ) (pairs : List (Item × Item)) (last text : List ℕ) (key value : Item) → KeysRise g room pairs last → KeyStands g room key text → key_row g pairs last key text ≡ None → KeysRise g room (pairs ++ (key, value) ∷ []) text
key_risen g room pairs last text key value rises stands row strict =
    let is = strict_only g strict in
    let row' = subst (λ (x : Grammar). key_row x pairs last key text ≡ None) is row in
    let above : is_below last text ≡ true = row_order (SpellsIn Strict room) no_writer pairs last key text row' in
    risen_push (SpellsIn Strict room) no_writer pairs (key, value) text (risen_past (SpellsIn Strict room) no_writer pairs last text (rises strict) above) (stands strict)

module _ (g : Grammar) (room : ℕ) (held : List ℕ) (start : ℕ) (item : Item) (end : ℕ) (a : start ≤ end) (b : end ≤ length held) where
  abbrev part : Reader
  part = read_in g room

  abbrev rest_of : List ℕ → List ℕ
  rest_of more = drop end (held ++ more)

  items_say : (left : ℕ) (items : List Item) → Says g room (Items left items) held start item end (items_step left (items ++ item ∷ []) end)
  unfolding read_each
  items_say zero items = λ more. refl
  items_say (suc n) items =
      let off : suc n ≡ 0 → ⊥ = λ e. absurd (omega arith) in
      let one : n ≡ suc n - 1 = omega arith in
      let front = items ++ item ∷ [] in
      rw (ne_eqb (suc n) 0 off) (
        refl,
        tt,
        tt,
        λ more. (
            in_turn (part (rest_of more)) (λ x. read_each part n (front ++ x.0 ∷ []) x.1) array_of
            ∙ ap (λ (m : ℕ). and_then (part (rest_of more)) (handed g part (Items m front) (held ++ more) end)) one),
      )

  value_says : (left : ℕ) (pairs : List (Item × Item)) (key : Item) (text : Span) → IsIn text held → HasRisen g room (Value left (pairs, key) text) held
      → Says g room (Value left (pairs, key) text) held start item end (pairs_step left (pairs ++ (key, item) ∷ []) text end)
  unfolding read_pairs
  value_says zero pairs key text is risen = λ more. refl
  value_says (suc n) pairs key text is risen =
      let off : suc n ≡ 0 → ⊥ = λ e. absurd (omega arith) in
      let one : n ≡ suc n - 1 = omega arith in
      let front = pairs ++ (key, item) ∷ [] in
      rw (ne_eqb (suc n) 0 off) (
        refl,
        is,
        risen item,
        λ more. (
            let last = span_in (held ++ more) text in
            in_turn (read_pair g part front last (rest_of more)) (λ x. read_pairs g part n (front ++ x.0 ∷ []) x.1.0 x.1.1) map_of
            ∙ in_turn (part (rest_of more)) (read_keyed g part front last (rest_of more)) (λ y. and_then (read_pairs g part n (front ++ y.0 ∷ []) y.1.0 y.1.1) map_of)
            ∙ ap (λ (m : ℕ). and_then (part (rest_of more)) (handed g part (Key m front text) (held ++ more) end)) one),
      )

  key_says : (left : ℕ) (pairs : List (Item × Item)) (last : Span) → IsIn last held → KeysRise g room pairs (span_in held last) → KeyStands g room item (span_in held (record { from = start; to = end }))
      → (o : Option Why) → key_row g pairs (span_in held last) item (span_in held (record { from = start; to = end })) ≡ o
      → Says g room (Key left pairs last) held start item end (key_judged o left pairs item (record { from = start; to = end }))
  key_says left pairs last is rises stands None row =
      let text : Span = record { from = start; to = end } in (
        refl,
        (a, b),
        (λ value. key_risen g room pairs (span_in held last) (span_in held text) item value rises stands row),
        λ more. (
            let all = held ++ more in
            let bytes = drop start all in
            let rest = drop end all in
            let within : end ≤ length all = omega (arith, length-append held more) in
            let front : front_of bytes rest ≡ span_in all text = front-span all start end a within in
            let same : key_row g pairs (span_in all last) item (front_of bytes rest) ≡ None =
            ap (λ (t : List ℕ). key_row g pairs t item (front_of bytes rest)) (span-more held more last is)
            ∙ ap (λ (t : List ℕ). key_row g pairs (span_in held last) item t) (front ∙ span-more held more text (a, b)) ∙ row in
            let x : Item × List ℕ = (item, rest) in
            let next : (Item × Item) × (List ℕ × List ℕ) → Read = λ y. and_then (read_pairs g part left (pairs ++ y.0 ∷ []) y.1.0 y.1.1) map_of in
            let give : Item × List ℕ → Result ((Item × Item) × (List ℕ × List ℕ)) Stop = λ v. Ok ((item, v.0), (front_of bytes rest, v.1)) in
            ap (λ (o : Option Why). and_then (and_then (judged (length bytes) o x) (read_value part bytes)) next) same
            ∙ in_turn (part rest) give next
            ∙ ap (λ (t : List ℕ). and_then (part rest) (λ (v : Item × List ℕ). and_then (read_pairs g part left (pairs ++ (item, v.0) ∷ []) t v.1) map_of)) front),
      )
  key_says left pairs last is rises stands (Some why) row =
      let text : Span = record { from = start; to = end } in
      let bytes = drop start held in
      let rest = drop end held in
      let front : front_of bytes rest ≡ span_in held text = front-span held start end a b in
      let same : key_row g pairs (span_in held last) item (front_of bytes rest) ≡ Some why = ap (λ (t : List ℕ). key_row g pairs (span_in held last) item t) front ∙ row in
      let x : Item × List ℕ = (item, rest) in
      let next : (Item × Item) × (List ℕ × List ℕ) → Read = λ y. and_then (read_pairs g part left (pairs ++ y.0 ∷ []) y.1.0 y.1.1) map_of in (
        row_why (is_key pairs item) (is_strict g && not (is_below (span_in held last) (span_in held text))) true why row,
        ap (λ (o : Option Why). and_then (and_then (judged (length bytes) o x) (read_value part bytes)) next) same,
      )

  pub parts-say : (parts : Parts) → AreIn parts held → HasRisen g room parts held → KeyStands g room item (span_in held (record { from = start; to = end })) → Says g room parts held start item end (parts_taken g held start item end parts)
  parts-say (Items left items) is risen stands = items_say left items
  parts-say (Key left pairs last) is risen stands = key_says left pairs last is risen stands (key_row g pairs (span_in held last) item (span_in held (record { from = start; to = end }))) refl
  parts-say (Value left (pairs, key) text) is risen stands = value_says left pairs key text is risen
  parts-say (Tag n) is risen stands = λ more. refl

  -- in strict a key above the last one is no earlier one
  pub parts-fresh : (parts : Parts) → HasRisen g room parts held → KeyStands g room item (span_in held (record { from = start; to = end })) → IsFreshAt g held start item end parts
  parts-fresh (Items left items) risen stands = tt
  parts-fresh (Key left pairs last) risen stands = λ strict above. no_key (SpellsIn Strict room) no_writer (unique room) pairs (span_in held last) item (span_in held (record { from = start; to = end })) (risen strict) (stands strict) above
  parts-fresh (Value left pairs text) risen stands = tt
  parts-fresh (Tag n) risen stands = tt
