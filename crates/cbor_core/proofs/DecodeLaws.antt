-- The laws of decoding, over all bytes.
use Rattle.std.proofs.Common.{◌≡◌, ℕ, zero, suc, ◌-◌, ◌≤◌, ◌⊎◌, List, [], ◌∷◌, ◌++◌, length, take, drop, Some, Result, Ok, Err, refl, sym, ap, subst, ◌∙◌, inl, inr, arith, append_assoc}
use Rattle.std.proofs.lemmas.List.{append-nil, length-append, append_cancel_right, take_at, take-append-drop, length-take}
use Rattle.cbor_core.specs.declared.words.Grammar.{Grammar}
use Rattle.cbor_core.specs.declared.words.Grammar.TheVariants.{Strict}
use Rattle.cbor_core.specs.declared.words.Why.{Why}
use Rattle.cbor_core.specs.declared.words.DecodeStop.TheVariants.{Fault as AtFault, OutOfMemory}
use Rattle.cbor_core.specs.declared.heads.Stop.{Stop}
use Rattle.cbor_core.specs.declared.tree.Item.{Item}
use Rattle.cbor_core.specs.Limits.{most_containers}
use Rattle.cbor_core.specs.Bytes.{IsBytes}
use Rattle.cbor_core.specs.Head.{head}
use Rattle.cbor_core.specs.Spells.{SpellsIn, Spells}
use Rattle.cbor_core.specs.Faults.{StuckAtPair, StuckInPairs, StuckInside, Stuck, FaultIn}
use Rattle.cbor_core.specs.Reading.{read_in}
use Rattle.cbor_core.specs.Decoding.{HasPrefix, HasFault, PrefixFree, PrefixOrFault, NotBoth, OneFault, RoundTrip, whole, strict_item, ItemIsSpelled, SpelledIsItem}
use Rattle.cbor_core.proofs.StepLemmas.{IsBytes-after, ok_is, ok_err, err_is}
use Rattle.cbor_core.proofs.HeadLemmas.{head-read}
use Rattle.cbor_core.proofs.ReadLaws.{read-again, read-spelled, read-stops, read-stuck}

abbrev Answer : Type 0
Answer = Result (Item × List ℕ) Stop

pub spelled-again : (g : Grammar) (item : Item) (text rest : List ℕ) → Spells g item text → read_in g most_containers (text ++ rest) ≡ Ok (item, rest)
unfolding Spells
spelled-again g item text rest s = read-again g most_containers item text rest s

pub prefix_free : PrefixFree
prefix_free g a b s t x y p q e =
    let one = ok_is (a, x) (b, y) (sym (spelled-again g a s x p) ∙ ap (read_in g most_containers) e ∙ spelled-again g b t y q) in
    let rests : x ≡ y = ap (λ (z : Item × List ℕ). z.1) one in
    (ap (λ (z : Item × List ℕ). z.0) one, append_cancel_right s t x (subst (λ (r : List ℕ). s ++ x ≡ t ++ r) (sym rests) e))

-- where bytes are stuck is within them
abbrev IsWithin : (List ℕ → ℕ → Why → Type 0) → Type 0
IsWithin Inner = (bytes : List ℕ) (left : ℕ) (why : Why) → IsBytes bytes → Inner bytes left why → left ≤ length bytes

within_after : (Inner : List ℕ → ℕ → Why → Type 0) → IsWithin Inner → (bytes front rest : List ℕ) (left : ℕ) (why : Why) → IsBytes bytes → bytes ≡ front ++ rest → Inner rest left why → left ≤ length bytes
within_after Inner most bytes front rest left why fits e w =
    let le : left ≤ length rest = most rest left why (IsBytes-after bytes front rest fits e) w in
    omega (arith, ap length e, length-append front rest)

module _ (g : Grammar) (Part : Item → List ℕ → Type 0) (Inner : List ℕ → ℕ → Why → Type 0) (most : IsWithin Inner) where
  pair_within : (earlier : List (Item × Item)) (last bytes : List ℕ) (left : ℕ) (why : Why) → IsBytes bytes → StuckAtPair g Part Inner earlier last bytes left why → left ≤ length bytes
  pair_within earlier last bytes left why fits (inl w) = most bytes left why fits w
  pair_within earlier last bytes left why fits (inr (item, key, rest, p, e, inl (row, l))) = omega arith
  pair_within earlier last bytes left why fits (inr (item, key, rest, p, e, inr (row, w))) = within_after Inner most bytes key rest left why fits e w

  pairs_within : (count : ℕ) (earlier : List (Item × Item)) (last bytes : List ℕ) (left : ℕ) (why : Why) → IsBytes bytes → StuckInPairs g Part Inner count earlier last bytes left why → left ≤ length bytes
  unfolding StuckInPairs
  pairs_within zero earlier last bytes left why fits w = absurd w
  pairs_within (suc count) earlier last bytes left why fits (inl w) = pair_within earlier last bytes left why fits w
  pairs_within (suc count) earlier last bytes left why fits (inr (pair, key, value, rest, p, row, q, e, more)) =
      let after : bytes ≡ (key ++ value) ++ rest = e ∙ sym (append_assoc key value rest) in
      let le : left ≤ length rest = pairs_within count (earlier ++ pair ∷ []) key rest left why (IsBytes-after bytes (key ++ value) rest fits after) more in
      omega (arith, ap length after, length-append (key ++ value) rest)

  inside_within : (room : ℕ) → IsWithin (λ bytes left why. StuckInside g room Part Inner bytes left why)
  inside_within room bytes left why fits (h, rest, e, row, w) =
      let read = head-read bytes h rest fits e in
      let front = head h.major h.size h.argument in
      let rest_fits = IsBytes-after bytes front rest fits read.parts in
      let le : left ≤ length rest = elim w [
        | inl (m, (items, text, end, lt, each, inner, te)) ↦ within_after Inner most rest text end left why rest_fits te inner
        | inr (inl (m, pairs)) ↦ pairs_within h.argument [] [] rest left why rest_fits pairs
        | inr (inr (m, inner)) ↦ most rest left why rest_fits inner
      ] in
      omega (arith, ap length read.parts, length-append front rest)

pub stuck-within : (g : Grammar) (room : ℕ) → IsWithin (Stuck g room)
unfolding Stuck
stuck-within g zero bytes left why fits (w, l) = omega arith
stuck-within g (suc room) bytes left why fits (inl (w, l)) = omega arith
stuck-within g (suc room) bytes left why fits (inr w) = inside_within g (SpellsIn g room) (Stuck g room) (stuck-within g room) (suc room) bytes left why fits w

-- ---- what a reader's answer says

-- an item that was read is spelled by the bytes before the rest
pub prefix_of : (g : Grammar) (bytes : List ℕ) (item : Item) (rest : List ℕ) → IsBytes bytes → read_in g most_containers bytes ≡ Ok (item, rest)
    → (length bytes - length rest ≤ length bytes) × Spells g item (take (length bytes - length rest) bytes)
unfolding Spells
prefix_of g bytes item rest fits e =
    let s = read-spelled g most_containers bytes item rest fits e in
    let text = s.0 in
    let n : length bytes - length rest ≡ length text = omega (arith, ap length s.2, length-append text rest) in
    let front : take (length bytes - length rest) bytes ≡ text = ap (λ (k : ℕ). take k bytes) n ∙ ap (λ (b : List ℕ). take (length text) b) s.2 ∙ take_at text rest (length text) refl in
    (omega arith, subst (λ (t : List ℕ). SpellsIn g most_containers item t) (sym front) s.1)

-- a stop that was read is a fault
pub fault_of : (g : Grammar) (bytes : List ℕ) (stop : Stop) → IsBytes bytes → read_in g most_containers bytes ≡ Err stop → FaultIn g 0 bytes (length bytes - stop.left) stop.why
fault_of g bytes stop fits e =
    let w = read-stops g most_containers bytes stop fits e in
    let le : stop.left ≤ length bytes = stuck-within g most_containers bytes stop.left stop.why fits w in
    let back : length bytes - (length bytes - stop.left) ≡ stop.left = omega arith in
    (omega arith, subst (λ (n : ℕ). Stuck g most_containers bytes n stop.why) (sym back) w)

-- ---- exactly one of a prefix and a fault

pub prefix_or_fault : PrefixOrFault
prefix_or_fault g bytes fits =
    let go : (r : Answer) → read_in g most_containers bytes ≡ r → HasPrefix g bytes ⊎ HasFault g bytes = λ r. elim r as (λ r. read_in g most_containers bytes ≡ r → HasPrefix g bytes ⊎ HasFault g bytes) [
      | Ok x ↦ λ e. (let p = prefix_of g bytes x.0 x.1 fits e in inl (x.0, length bytes - length x.1, p.0, p.1))
      | Err stop ↦ λ e. inr (length bytes - stop.left, stop.why, fault_of g bytes stop fits e)
    ] in
    go (read_in g most_containers bytes) refl

prefix-reads : (g : Grammar) (bytes : List ℕ) (item : Item) (n : ℕ) → Spells g item (take n bytes) → read_in g most_containers bytes ≡ Ok (item, drop n bytes)
prefix-reads g bytes item n s = ap (read_in g most_containers) (sym (take-append-drop n bytes)) ∙ spelled-again g item (take n bytes) (drop n bytes) s

pub not_both : NotBoth
not_both g bytes (item, n, le, s) (at, why, (within, w)) = ok_err _ _ (sym (prefix-reads g bytes item n s) ∙ read-stuck g most_containers bytes (length bytes - at) why w)

pub one_fault : OneFault
one_fault g bytes at other_at why other_why (within, w) (other_within, v) =
    let same = err_is (record { left = length bytes - at; why = why }) (record { left = length bytes - other_at; why = other_why }) (sym (read-stuck g most_containers bytes (length bytes - at) why w) ∙ read-stuck g most_containers bytes (length bytes - other_at) other_why v) in
    let places : length bytes - at ≡ length bytes - other_at = ap (λ (s : Stop). s.left) same in
    (omega arith, ap (λ (s : Stop). s.why) same)

-- ---- the item that bytes strictly spell

whole-some : (r : Answer) (item : Item) → whole r ≡ Some item → r ≡ Ok (item, [])
whole-some (Ok (x, [])) item e = let p : x ≡ item = cc in ap (λ (y : Item). let a : Answer = Ok (y, []) in a) p
whole-some (Ok (x, b ∷ rest)) item e = absurd cc
whole-some (Err stop) item e = absurd cc

pub item_is_spelled : ItemIsSpelled
unfolding strict_item Spells
item_is_spelled bytes item fits e =
    let s = read-spelled Strict most_containers bytes item [] fits (whole-some (read_in Strict most_containers bytes) item e) in
    subst (λ (t : List ℕ). SpellsIn Strict most_containers item t) (sym (s.2 ∙ append-nil s.0)) s.1

pub spelled_is_item : SpelledIsItem
unfolding strict_item
spelled_is_item bytes item s = ap whole (ap (read_in Strict most_containers) (sym (append-nil bytes)) ∙ spelled-again Strict item bytes [] s)

-- ---- the round trip

pub round_trip : RoundTrip
round_trip g item text rest (Ok found) s (le, t) =
    let bytes = text ++ rest in
    let n = found.1 in
    let p = prefix_free g item found.0 text (take n bytes) rest (drop n bytes) s t (sym (take-append-drop n bytes)) in
    let len : length text ≡ n = omega (arith, ap length p.1, length-take n bytes) in
    inl (λ i. Ok (sym p.0 i, sym len i))
round_trip g item text rest (Err (AtFault fault)) s w =
    let front : take (length text) (text ++ rest) ≡ text = take_at text rest (length text) refl in
    absurd (not_both g (text ++ rest) (item, length text, omega (arith, length-append text rest), subst (λ (t : List ℕ). Spells g item t) (sym front) s) (fault.at, fault.why, w))
round_trip g item text rest (Err OutOfMemory) s w = inr refl
