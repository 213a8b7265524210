-- What stands at the front of the bytes stands there whatever follows.
use Rattle.std.proofs.Common.{◌≡◌, ℕ, zero, suc, ◌-◌, ◌/◌, ◌<◌, ◌≤◌, ◌⊎◌, List, [], ◌∷◌, ◌++◌, length, take, drop, get_or, Option, Some, None, Result, Ok, Err, refl, sym, ap, subst, ◌∙◌, inl, inr, arith, append_assoc, ne_eqb}
use Rattle.std.proofs.lemmas.List.{take-append-drop}
use Rattle.cbor_core.specs.declared.words.Grammar.{Grammar}
use Rattle.cbor_core.specs.declared.words.Why.{Why}
use Rattle.cbor_core.specs.declared.words.Why.TheVariants.{Truncated}
use Rattle.cbor_core.specs.declared.heads.Head.{Head}
use Rattle.cbor_core.specs.declared.heads.Stop.{Stop}
use Rattle.cbor_core.specs.declared.tree.Item.{Item}
use Rattle.cbor_core.specs.Limits.{most_containers}
use Rattle.cbor_core.specs.Bytes.{IsBytes}
use Rattle.cbor_core.specs.Head.{head_at}
use Rattle.cbor_core.specs.Faults.{row_of, FaultIn}
use Rattle.cbor_core.specs.Spells.{Spells}
use Rattle.cbor_core.specs.Reading.{and_then, judged, Reader, opened_by, opened, read_body, part_in, read_each, read_pairs, read_in}
use Rattle.cbor_core.proofs.StepLemmas.{steps_ok, ok_is, ok_err, err_is}
use Rattle.cbor_core.proofs.HeadLemmas.{head-read}
use Rattle.cbor_core.proofs.RowLemmas.{IsOpen-from}
use Rattle.cbor_core.proofs.ReadLoops.{read_in-is}
use Rattle.cbor_core.proofs.ReadLaws.{read-stuck}
use Rattle.cbor_core.proofs.DecodeLaws.{spelled-again}
use Rattle.cbor_core.proofs.WholeLaws.{none_is_empty}
use Rattle.cbor_feed.specs.declared.containers.Container.{Container}
use Rattle.cbor_feed.specs.declared.containers.Container.TheVariants.{Array, Map, Tag}
use Rattle.cbor_feed.specs.Containers.{kind, container_at, read_container}
use Rattle.cbor_feed.specs.Parts.{opening, IsWhole, IsPartThere}
use Rattle.cbor_feed.proofs.HeadSteps.{head-major, head-more, head-front, opened_ok, opened-is, row-is, container_major, container_ok}

abbrev Read : Type 0
Read = Result (Item × List ℕ) Stop

-- ---- no bytes

pub nothing-read : (g : Grammar) (room : ℕ) (bytes : List ℕ) → length bytes ≡ 0 → read_in g room bytes ≡ Err (record { left = length bytes; why = Truncated })
unfolding head_at
nothing-read g room [] e = read_in-is g room []
nothing-read g room (b ∷ bytes) e = absurd (omega arith)

-- ---- an item that holds no other is read alike wherever it stands

abbrev pub IsLeaf : ℕ → Type 0
IsLeaf m = (m < 4) ⊎ (m ≡ 7)

leaf_major : (m : ℕ) → IsLeaf m → (m ≡ 0) ⊎ ((m ≡ 1) ⊎ ((m ≡ 2) ⊎ ((m ≡ 3) ⊎ (m ≡ 7))))
leaf_major m (inl lt) = grind arith
leaf_major m (inr e) = inr (inr (inr (inr e)))

abbrev SameRow : ℕ → Type 0
SameRow m = (g : Grammar) (room other : ℕ) (h : Head) (rest : List ℕ) → h.major ≡ m → row_of g room h rest ≡ row_of g other h rest

row_0 : SameRow 0
row_0 g room other h rest e = rw e refl

row_1 : SameRow 1
row_1 g room other h rest e = rw e refl

row_2 : SameRow 2
row_2 g room other h rest e = rw e refl

row_3 : SameRow 3
row_3 g room other h rest e = rw e refl

row_7 : SameRow 7
row_7 g room other h rest e = rw e refl

leaf_row : (g : Grammar) (room other : ℕ) (h : Head) (rest : List ℕ) → IsLeaf h.major → row_of g room h rest ≡ row_of g other h rest
leaf_row g room other h rest leaf = elim (leaf_major h.major leaf) [
  | inl e ↦ row_0 g room other h rest e
  | inr (inl e) ↦ row_1 g room other h rest e
  | inr (inr (inl e)) ↦ row_2 g room other h rest e
  | inr (inr (inr (inl e))) ↦ row_3 g room other h rest e
  | inr (inr (inr (inr e))) ↦ row_7 g room other h rest e
]

abbrev SameBody : ℕ → Type 0
SameBody m = (g : Grammar) (part other : Reader) (h : Head) (rest : List ℕ) → h.major ≡ m → read_body g part h rest ≡ read_body g other h rest

body_0 : SameBody 0
body_0 g part other h rest e = rw e refl

body_1 : SameBody 1
body_1 g part other h rest e = rw e refl

body_2 : SameBody 2
body_2 g part other h rest e = rw e refl

body_3 : SameBody 3
body_3 g part other h rest e = rw e refl

body_7 : SameBody 7
body_7 g part other h rest e = rw e refl

leaf_body : (g : Grammar) (part other : Reader) (h : Head) (rest : List ℕ) → IsLeaf h.major → read_body g part h rest ≡ read_body g other h rest
leaf_body g part other h rest leaf = elim (leaf_major h.major leaf) [
  | inl e ↦ body_0 g part other h rest e
  | inr (inl e) ↦ body_1 g part other h rest e
  | inr (inr (inl e)) ↦ body_2 g part other h rest e
  | inr (inr (inr (inl e))) ↦ body_3 g part other h rest e
  | inr (inr (inr (inr e))) ↦ body_7 g part other h rest e
]

-- its body is never at fault
abbrev NoStop : ℕ → Type 0
NoStop m = (g : Grammar) (part : Reader) (h : Head) (rest : List ℕ) (stop : Stop) → h.major ≡ m → read_body g part h rest ≡ Err stop → ⊥

stop_0 : NoStop 0
stop_0 g part h rest stop e s = ok_err _ _ (rw e at s)

stop_1 : NoStop 1
stop_1 g part h rest stop e s = ok_err _ _ (rw e at s)

stop_2 : NoStop 2
stop_2 g part h rest stop e s = ok_err _ _ (rw e at s)

stop_3 : NoStop 3
stop_3 g part h rest stop e s = ok_err _ _ (rw e at s)

stop_7 : NoStop 7
stop_7 g part h rest stop e s = ok_err _ _ (rw e at s)

leaf_stop : (g : Grammar) (part : Reader) (h : Head) (rest : List ℕ) (stop : Stop) → IsLeaf h.major → read_body g part h rest ≡ Err stop → ⊥
leaf_stop g part h rest stop leaf s = elim (leaf_major h.major leaf) [
  | inl e ↦ stop_0 g part h rest stop e s
  | inr (inl e) ↦ stop_1 g part h rest stop e s
  | inr (inr (inl e)) ↦ stop_2 g part h rest stop e s
  | inr (inr (inr (inl e))) ↦ stop_3 g part h rest stop e s
  | inr (inr (inr (inr e))) ↦ stop_7 g part h rest stop e s
]

-- the head at the front, if there is one, is of such an item
abbrev pub HasLeaf : List ℕ → Type 0
HasLeaf bytes = (h : Head) (rest : List ℕ) → head_at bytes ≡ Ok (h, rest) → IsLeaf h.major

abbrev by_head : Grammar → ℕ → ℕ → Result (Head × List ℕ) Why → Read
by_head g room left r = and_then (opened_by g room left r) (λ x. read_body g (part_in g room) x.0 x.1)

abbrev by_row : Grammar → ℕ → ℕ → Head × List ℕ → Option Why → Read
by_row g room left x o = and_then (judged left o x) (λ y. read_body g (part_in g room) y.0 y.1)

same_judged : (g : Grammar) (room other left : ℕ) (h : Head) (rest : List ℕ) (o : Option Why) → IsLeaf h.major → by_row g room left (h, rest) o ≡ by_row g other left (h, rest) o
same_judged g room other left h rest None leaf = leaf_body g (part_in g room) (part_in g other) h rest leaf
same_judged g room other left h rest (Some why) leaf = refl

same_by : (g : Grammar) (room other left : ℕ) (r : Result (Head × List ℕ) Why) → ((h : Head) (rest : List ℕ) → r ≡ Ok (h, rest) → IsLeaf h.major) → by_head g room left r ≡ by_head g other left r
same_by g room other left (Err why) leaf = refl
same_by g room other left (Ok (h, rest)) leaf =
    let is = leaf h rest refl in
    ap (λ (o : Option Why). by_row g room left (h, rest) o) (leaf_row g room other h rest is) ∙ same_judged g room other left h rest (row_of g other h rest) is

pub leaf-room : (g : Grammar) (room other : ℕ) (bytes : List ℕ) → HasLeaf bytes → read_in g room bytes ≡ read_in g other bytes
leaf-room g room other bytes leaf = read_in-is g room bytes ∙ same_by g room other (length bytes) (head_at bytes) leaf ∙ sym (read_in-is g other bytes)

stop_by : (g : Grammar) (room left : ℕ) (r : Result (Head × List ℕ) Why) (stop : Stop) → ((h : Head) (rest : List ℕ) → r ≡ Ok (h, rest) → IsLeaf h.major) → by_head g room left r ≡ Err stop → stop.left ≡ left
stop_by g room left (Err why) stop leaf e = sym (ap (λ (s : Stop). s.left) (err_is (record { left = left; why = why }) stop e))
stop_by g room left (Ok (h, rest)) stop leaf e =
    let is = leaf h rest refl in
    let go : (o : Option Why) → by_row g room left (h, rest) o ≡ Err stop → stop.left ≡ left = λ o. elim o as (λ o. by_row g room left (h, rest) o ≡ Err stop → stop.left ≡ left) [
      | None ↦ λ s. absurd (leaf_stop g (part_in g room) h rest stop is s)
      | Some why ↦ λ s. sym (ap (λ (s : Stop). s.left) (err_is (record { left = left; why = why }) stop s))
    ] in
    go (row_of g room h rest) e

-- its fault is at its front
pub leaf-stop : (g : Grammar) (room : ℕ) (bytes : List ℕ) (stop : Stop) → HasLeaf bytes → read_in g room bytes ≡ Err stop → stop.left ≡ length bytes
leaf-stop g room bytes stop leaf e = stop_by g room (length bytes) (head_at bytes) stop leaf (sym (read_in-is g room bytes) ∙ e)

pub has_leaf : (bytes : List ℕ) → IsBytes bytes → IsLeaf (get_or bytes 0 0 / 32) → HasLeaf bytes
has_leaf bytes fits leaf h rest e = subst IsLeaf (sym (head-major bytes h rest fits e)) leaf

-- the same behind which other bytes stand
has_leaf_more : (bytes : List ℕ) (h : Head) (rest more : List ℕ) → IsBytes bytes → head_at bytes ≡ Ok (h, rest) → IsLeaf h.major → HasLeaf (bytes ++ more)
has_leaf_more bytes h rest more fits e leaf other after is =
    let p = ok_is (h, rest ++ more) (other, after) (sym (head-more bytes h rest fits e more) ∙ is) in
    subst (λ (x : Head × List ℕ). IsLeaf x.0.major) p leaf

pub leaf-whole : (g : Grammar) (room : ℕ) (bytes : List ℕ) (item : Item) (len : ℕ) → IsBytes bytes → IsLeaf (get_or bytes 0 0 / 32) → len ≤ length bytes → Spells g item (take len bytes) → IsWhole g room bytes item len
leaf-whole g room bytes item len fits leaf le s =
    let all : (more : List ℕ) → bytes ++ more ≡ take len bytes ++ (drop len bytes ++ more) = λ more. ap (λ (b : List ℕ). b ++ more) (sym (take-append-drop len bytes)) ∙ append_assoc (take len bytes) (drop len bytes) more in
    let again : (more : List ℕ) → read_in g most_containers (bytes ++ more) ≡ Ok (item, drop len bytes ++ more) = λ more. ap (λ (b : List ℕ). read_in g most_containers b) (all more) ∙ spelled-again g item (take len bytes) (drop len bytes ++ more) s in
    let here : read_in g most_containers bytes ≡ Ok (item, drop len bytes) = ap (λ (b : List ℕ). read_in g most_containers b) (sym (take-append-drop len bytes)) ∙ spelled-again g item (take len bytes) (drop len bytes) s in
    let b = steps_ok (opened g most_containers bytes) (λ x. read_body g (part_in g most_containers) x.0 x.1) (item, drop len bytes) (sym (read_in-is g most_containers bytes) ∙ here) in
    let o = opened_ok g most_containers (length bytes) (head_at bytes) b.0 b.1 in
    let is : IsLeaf b.0.0.major = has_leaf bytes fits leaf b.0.0 b.0.1 o.0 in
    record {
      some = elim len as (λ n. Spells g item (take n bytes) → 0 < n) [ zero ↦ λ t. absurd (none_is_empty g item t) | suc n ↦ λ t. omega arith ] s;
      within = le;
      reads = λ more. leaf-room g room most_containers (bytes ++ more) (has_leaf_more bytes b.0.0 b.0.1 more fits o.0 is) ∙ again more;
    }

pub leaf-fault : (g : Grammar) (room : ℕ) (bytes : List ℕ) (at : ℕ) (why : Why) → IsBytes bytes → IsLeaf (get_or bytes 0 0 / 32) → FaultIn g 0 bytes at why → read_in g room bytes ≡ Err (record { left = length bytes; why = why })
leaf-fault g room bytes at why fits leaf (le, stuck) =
    let stop : Stop = record { left = length bytes - at; why = why } in
    let has = has_leaf bytes fits leaf in
    let e : read_in g most_containers bytes ≡ Err stop = read-stuck g most_containers bytes (length bytes - at) why stuck in
    let left : length bytes - at ≡ length bytes = leaf-stop g most_containers bytes stop has e in
    leaf-room g room most_containers bytes has ∙ e ∙ ap (λ (n : ℕ). Err (record { left = n; why = why })) left

-- ---- containers

part_is : (g : Grammar) (room : ℕ) → 0 < room → part_in g room ≡ read_in g (room - 1)
part_is g zero lt = absurd (omega arith)
part_is g (suc room) lt = let n : room ≡ suc room - 1 = omega arith in ap (λ (r : ℕ). read_in g r) n

body_4 : (g : Grammar) (part : Reader) (h : Head) (rest : List ℕ) → h.major ≡ 4 → read_body g part h rest ≡ read_container g part (kind h.major h.argument) rest
body_4 g part h rest e = rw e refl

body_5 : (g : Grammar) (part : Reader) (h : Head) (rest : List ℕ) → h.major ≡ 5 → read_body g part h rest ≡ read_container g part (kind h.major h.argument) rest
body_5 g part h rest e = rw e refl

body_6 : (g : Grammar) (part : Reader) (h : Head) (rest : List ℕ) → h.major ≡ 6 → read_body g part h rest ≡ read_container g part (kind h.major h.argument) rest
body_6 g part h rest e = rw e refl

body-is : (g : Grammar) (part : Reader) (h : Head) (rest : List ℕ) → 4 ≤ h.major → h.major < 7 → read_body g part h rest ≡ read_container g part (kind h.major h.argument) rest
body-is g part h rest a b = elim (container_major h.major a b) [ inl e ↦ body_4 g part h rest e | inr (inl e) ↦ body_5 g part h rest e | inr (inr e) ↦ body_6 g part h rest e ]

-- a container of which the head is there: it is whole where it is an empty array or map
opening-is : (g : Grammar) (room : ℕ) (bytes : List ℕ) (k : Container) (len : ℕ) → 0 < len → len ≤ length bytes → 0 < room
    → ((more : List ℕ) → read_in g room (bytes ++ more) ≡ read_container g (read_in g (room - 1)) k (drop len bytes ++ more)) → IsPartThere g room bytes (opening k len)
unfolding read_each read_pairs
opening-is g room bytes (Array zero) len some le room_left reads = record { some = some; within = le; reads = reads }
opening-is g room bytes (Array (suc n)) len some le room_left reads =
    let off : suc n ≡ 0 → ⊥ = λ e. absurd (omega arith) in
    rw (ne_eqb (suc n) 0 off) (record { some = some; within = le; room_left = room_left; parts = omega arith; reads = reads })
opening-is g room bytes (Map zero) len some le room_left reads = record { some = some; within = le; reads = reads }
opening-is g room bytes (Map (suc n)) len some le room_left reads =
    let off : suc n ≡ 0 → ⊥ = λ e. absurd (omega arith) in
    rw (ne_eqb (suc n) 0 off) (record { some = some; within = le; room_left = room_left; parts = omega arith; reads = reads })
opening-is g room bytes (Tag n) len some le room_left reads = record { some = some; within = le; room_left = room_left; parts = tt; reads = reads }

pub container-part : (g : Grammar) (room : ℕ) (bytes : List ℕ) (k : Container) (rest : List ℕ) → IsBytes bytes → 4 ≤ get_or bytes 0 0 / 32 → get_or bytes 0 0 / 32 < 7
    → container_at (opened g room bytes) ≡ Ok (k, rest) → IsPartThere g room bytes (opening k (length bytes - length rest))
container-part g room bytes k rest fits from to e =
    let x = container_ok (opened g room bytes) k rest e in
    let h = x.0 in
    let o = opened_ok g room (length bytes) (head_at bytes) (h, rest) x.1 in
    let m = head-major bytes h rest fits o.0 in
    let low : 4 ≤ h.major = omega arith in
    let high : h.major < 7 = omega arith in
    let read = head-read bytes h rest fits o.0 in
    let room_left : 0 < room = (IsOpen-from g room h rest read.major read.fits o.1).room_left low high in
    let front = head-front bytes h rest fits o.0 in
    let len = length bytes - length rest in
    let row : (more : List ℕ) → row_of g room h (rest ++ more) ≡ None = λ more. row-is g room h (rest ++ more) low high ∙ sym (row-is g room h rest low high) ∙ o.1 in
    let reads : (more : List ℕ) → read_in g room (bytes ++ more) ≡ read_container g (read_in g (room - 1)) k (drop len bytes ++ more) = λ more. (
    read_in-is g room (bytes ++ more)
    ∙ ap (λ (r : Result (Head × List ℕ) Stop). and_then r (λ x. read_body g (part_in g room) x.0 x.1)) (opened-is g room (bytes ++ more) h (rest ++ more) (head-more bytes h rest fits o.0 more) (row more))
    ∙ body-is g (part_in g room) h (rest ++ more) low high
    ∙ ap (λ (p : Reader). read_container g p (kind h.major h.argument) (rest ++ more)) (part_is g room room_left)
    ∙ ap (λ (c : Container). read_container g (read_in g (room - 1)) c (rest ++ more)) x.2
    ∙ ap (λ (r : List ℕ). read_container g (read_in g (room - 1)) k (r ++ more)) (sym front.behind)) in
    opening-is g room bytes k len front.some front.within room_left reads

-- a container's head that is refused
pub container-fault : (g : Grammar) (room : ℕ) (bytes : List ℕ) (stop : Stop) → opened g room bytes ≡ Err stop → read_in g room bytes ≡ Err stop
container-fault g room bytes stop e = read_in-is g room bytes ∙ ap (λ (r : Result (Head × List ℕ) Stop). and_then r (λ x. read_body g (part_in g room) x.0 x.1)) e
