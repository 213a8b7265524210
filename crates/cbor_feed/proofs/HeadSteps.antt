-- Heads: by the first byte, and whatever follows.
use Rattle.std.proofs.Common.{◌≡◌, ℕ, ◌+◌, ◌-◌, ◌*◌, ◌/◌, ◌%◌, ◌<◌, ◌≤◌, ◌⊎◌, List, [], ◌∷◌, ◌++◌, length, take, drop, get_or, Option, Some, None, Result, Ok, Err, refl, sym, ap, ◌∙◌, inl, inr, arith, append_assoc}
use Rattle.std.proofs.lemmas.List.{take_rest, length-append, drop_at}
use Rattle.cbor_core.specs.declared.words.Grammar.{Grammar}
use Rattle.cbor_core.specs.declared.words.Grammar.TheVariants.{Strict, Wide}
use Rattle.cbor_core.specs.declared.words.Why.{Why}
use Rattle.cbor_core.specs.declared.heads.Size.{Size}
use Rattle.cbor_core.specs.declared.heads.Size.TheVariants.{Within, One, Two, Four, Eight}
use Rattle.cbor_core.specs.declared.heads.Head.{Head}
use Rattle.cbor_core.specs.declared.heads.Stop.{Stop}
use Rattle.cbor_core.specs.Bytes.{IsBytes}
use Rattle.cbor_core.specs.Head.{head, information, limit, least, head_at, sized}
use Rattle.cbor_core.specs.Faults.{row_of}
use Rattle.cbor_core.specs.Reading.{judged, opened_by, opened}
use Rattle.cbor_core.proofs.StepLemmas.{ok_is, err_ok}
use Rattle.cbor_core.proofs.HeadLemmas.{head-again, head-read}
use Rattle.cbor_feed.specs.declared.heads.Argument.{Argument}
use Rattle.cbor_feed.specs.declared.containers.Container.{Container}
use Rattle.cbor_feed.specs.Heads.{argument_at}
use Rattle.cbor_feed.specs.Containers.{kind, refused_by, container_at}

-- ---- a head by its first byte

one_at : (bytes : List ℕ) → 1 ≤ length bytes → get_or bytes 0 0 % 32 ≡ 24 → head_at bytes ≡ sized (get_or bytes 0 0) One (drop 1 bytes)
unfolding head_at
one_at [] le e = absurd (omega arith)
one_at (b ∷ rest) le e = rw e refl

two_at : (bytes : List ℕ) → 1 ≤ length bytes → get_or bytes 0 0 % 32 ≡ 25 → head_at bytes ≡ sized (get_or bytes 0 0) Two (drop 1 bytes)
unfolding head_at
two_at [] le e = absurd (omega arith)
two_at (b ∷ rest) le e = rw e refl

four_at : (bytes : List ℕ) → 1 ≤ length bytes → get_or bytes 0 0 % 32 ≡ 26 → head_at bytes ≡ sized (get_or bytes 0 0) Four (drop 1 bytes)
unfolding head_at
four_at [] le e = absurd (omega arith)
four_at (b ∷ rest) le e = rw e refl

eight_at : (bytes : List ℕ) → 1 ≤ length bytes → get_or bytes 0 0 % 32 ≡ 27 → head_at bytes ≡ sized (get_or bytes 0 0) Eight (drop 1 bytes)
unfolding head_at
eight_at [] le e = absurd (omega arith)
eight_at (b ∷ rest) le e = rw e refl

pub head-one : (bytes : List ℕ) → 1 ≤ length bytes → get_or bytes 0 0 % 32 ≡ 24 → head_at bytes ≡ sized (get_or bytes 0 0) One (take (length bytes - 1) (drop 1 bytes))
head-one bytes le e = one_at bytes le e ∙ ap (λ (r : List ℕ). sized (get_or bytes 0 0) One r) (sym (take_rest bytes 1))

pub head-two : (bytes : List ℕ) → 1 ≤ length bytes → get_or bytes 0 0 % 32 ≡ 25 → head_at bytes ≡ sized (get_or bytes 0 0) Two (take (length bytes - 1) (drop 1 bytes))
head-two bytes le e = two_at bytes le e ∙ ap (λ (r : List ℕ). sized (get_or bytes 0 0) Two r) (sym (take_rest bytes 1))

pub head-four : (bytes : List ℕ) → 1 ≤ length bytes → get_or bytes 0 0 % 32 ≡ 26 → head_at bytes ≡ sized (get_or bytes 0 0) Four (take (length bytes - 1) (drop 1 bytes))
head-four bytes le e = four_at bytes le e ∙ ap (λ (r : List ℕ). sized (get_or bytes 0 0) Four r) (sym (take_rest bytes 1))

pub head-eight : (bytes : List ℕ) → 1 ≤ length bytes → get_or bytes 0 0 % 32 ≡ 27 → head_at bytes ≡ sized (get_or bytes 0 0) Eight (take (length bytes - 1) (drop 1 bytes))
head-eight bytes le e = eight_at bytes le e ∙ ap (λ (r : List ℕ). sized (get_or bytes 0 0) Eight r) (sym (take_rest bytes 1))

-- ---- what a head that was read says of the bytes

small_information : (size : Size) (n : ℕ) → n < limit size → information size n < 32
small_information Within n lt = omega arith
small_information One n lt = omega arith
small_information Two n lt = omega arith
small_information Four n lt = omega arith
small_information Eight n lt = omega arith

-- the major type is that of the first byte
pub head-major : (bytes : List ℕ) (h : Head) (rest : List ℕ) → IsBytes bytes → head_at bytes ≡ Ok (h, rest) → h.major ≡ get_or bytes 0 0 / 32
head-major bytes h rest fits e =
    let r = head-read bytes h rest fits e in
    let i = information h.size h.argument in
    let small : i < 32 = small_information h.size h.argument r.fits in
    let first : get_or bytes 0 0 ≡ 32 * h.major + i = ap (λ (b : List ℕ). get_or b 0 0) r.parts in
    rw first (omega arith)

-- it is read whatever follows
pub head-more : (bytes : List ℕ) (h : Head) (rest : List ℕ) → IsBytes bytes → head_at bytes ≡ Ok (h, rest) → (more : List ℕ) → head_at (bytes ++ more) ≡ Ok (h, rest ++ more)
head-more bytes h rest fits e more =
    let r = head-read bytes h rest fits e in
    let front = head h.major h.size h.argument in
    let whole : bytes ++ more ≡ front ++ (rest ++ more) = ap (λ (b : List ℕ). b ++ more) r.parts ∙ append_assoc front rest more in
    ap head_at whole ∙ head-again h.major h.size h.argument (rest ++ more) r.fits r.free

-- it has at least a byte, and what follows it are the bytes behind
pub record IsFront (bytes rest : List ℕ) : Type 0 where
  pub some : 0 < length bytes - length rest
  pub within : length bytes - length rest ≤ length bytes
  pub behind : drop (length bytes - length rest) bytes ≡ rest

pub head-front : (bytes : List ℕ) (h : Head) (rest : List ℕ) → IsBytes bytes → head_at bytes ≡ Ok (h, rest) → IsFront bytes rest
head-front bytes h rest fits e =
    let r = head-read bytes h rest fits e in
    let front = head h.major h.size h.argument in
    let n : length front ≡ length bytes - length rest = omega (arith, ap length r.parts, length-append front rest) in
    record {
      some = omega arith;
      within = omega arith;
      behind = ap (λ (b : List ℕ). drop (length bytes - length rest) b) r.parts ∙ drop_at front rest (length bytes - length rest) n;
    }

-- ---- a head that is judged

pub opened_ok : (g : Grammar) (room left : ℕ) (found : Result (Head × List ℕ) Why) (x : Head × List ℕ) → opened_by g room left found ≡ Ok x → (found ≡ Ok x) × (row_of g room x.0 x.1 ≡ None)
opened_ok g room left (Err why) x e = absurd (err_ok _ _ e)
opened_ok g room left (Ok y) x e =
    let go : (o : Option Why) → row_of g room y.0 y.1 ≡ o → judged left o y ≡ Ok x → (y ≡ x) × (row_of g room y.0 y.1 ≡ None) = λ o. elim o as (λ o. row_of g room y.0 y.1 ≡ o → judged left o y ≡ Ok x → (y ≡ x) × (row_of g room y.0 y.1 ≡ None)) [
      | None ↦ λ is j. (ok_is y x j, is)
      | Some why ↦ λ is j. absurd (err_ok _ _ j)
    ] in
    let p = go (row_of g room y.0 y.1) refl e in
    (ap (λ (z : Head × List ℕ). Ok z) p.0, ap (λ (z : Head × List ℕ). row_of g room z.0 z.1) (sym p.0) ∙ p.1)

pub opened-is : (g : Grammar) (room : ℕ) (bytes : List ℕ) (h : Head) (rest : List ℕ) → head_at bytes ≡ Ok (h, rest) → row_of g room h rest ≡ None → opened g room bytes ≡ Ok (h, rest)
opened-is g room bytes h rest e row =
    ap (λ (r : Result (Head × List ℕ) Why). opened_by g room (length bytes) r) e ∙ ap (λ (o : Option Why). judged (length bytes) o (h, rest)) row

abbrev IsContainer : ℕ → Type 0
IsContainer m = (m ≡ 4) ⊎ ((m ≡ 5) ⊎ (m ≡ 6))

pub container_major : (m : ℕ) → 4 ≤ m → m < 7 → (m ≡ 4) ⊎ ((m ≡ 5) ⊎ (m ≡ 6))
container_major m a b = grind arith

abbrev argument : Head → Argument
argument h = record { value = h.argument; least = least h.size }

row_4 : (g : Grammar) (room : ℕ) (h : Head) (rest : List ℕ) → h.major ≡ 4 → row_of g room h rest ≡ refused_by g room h.major (argument h)
row_4 Strict room h rest e = rw e refl
row_4 Wide room h rest e = rw e refl

row_5 : (g : Grammar) (room : ℕ) (h : Head) (rest : List ℕ) → h.major ≡ 5 → row_of g room h rest ≡ refused_by g room h.major (argument h)
row_5 Strict room h rest e = rw e refl
row_5 Wide room h rest e = rw e refl

row_6 : (g : Grammar) (room : ℕ) (h : Head) (rest : List ℕ) → h.major ≡ 6 → row_of g room h rest ≡ refused_by g room h.major (argument h)
row_6 Strict room h rest e = rw e refl
row_6 Wide room h rest e = rw e refl

-- the rows for a container's head
pub row-is : (g : Grammar) (room : ℕ) (h : Head) (rest : List ℕ) → 4 ≤ h.major → h.major < 7 → row_of g room h rest ≡ refused_by g room h.major (record { value = h.argument; least = least h.size })
row-is g room h rest a b = elim (container_major h.major a b) [ inl e ↦ row_4 g room h rest e | inr (inl e) ↦ row_5 g room h rest e | inr (inr e) ↦ row_6 g room h rest e ]

argument_ok : (r : Result (Head × List ℕ) Why) (a : Argument) (rest : List ℕ) → argument_at r ≡ Ok (a, rest) → (h : Head) × (r ≡ Ok (h, rest)) × (argument h ≡ a)
argument_ok (Ok (h, t)) a rest e =
    let p = ok_is (argument h, t) (a, rest) e in
    (h, ap (λ (x : Argument × List ℕ). Ok (h, x.1)) p, ap (λ (x : Argument × List ℕ). x.0) p)
argument_ok (Err why) a rest e = absurd (err_ok _ _ e)

module _ (g : Grammar) (room : ℕ) (bytes : List ℕ) (fits : IsBytes bytes) (from : 4 ≤ get_or bytes 0 0 / 32) (to : get_or bytes 0 0 / 32 < 7) where
  judged_so : (a : Argument) (rest : List ℕ) → argument_at (head_at bytes) ≡ Ok (a, rest)
      → (h : Head) × (opened g room bytes ≡ judged (length bytes) (refused_by g room (get_or bytes 0 0 / 32) a) (h, rest)) × (kind h.major h.argument ≡ kind (get_or bytes 0 0 / 32) a.value)
  judged_so a rest e =
      let x = argument_ok (head_at bytes) a rest e in
      let h = x.0 in
      let m = head-major bytes h rest fits x.1 in
      let low : 4 ≤ h.major = omega arith in
      let high : h.major < 7 = omega arith in
      let row : row_of g room h rest ≡ refused_by g room (get_or bytes 0 0 / 32) a = row-is g room h rest low high ∙ ap (λ (y : ℕ). refused_by g room y (argument h)) m ∙ ap (λ (y : Argument). refused_by g room (get_or bytes 0 0 / 32) y) x.2 in
      (h, ap (λ (r : Result (Head × List ℕ) Why). opened_by g room (length bytes) r) x.1 ∙ ap (λ (o : Option Why). judged (length bytes) o (h, rest)) row, ap (λ (y : ℕ). kind y h.argument) m ∙ ap (λ (y : Argument). kind (get_or bytes 0 0 / 32) y.value) x.2)

  pub container-refused : (a : Argument) (rest : List ℕ) (why : Why) → argument_at (head_at bytes) ≡ Ok (a, rest) → refused_by g room (get_or bytes 0 0 / 32) a ≡ Some why → opened g room bytes ≡ Err (record { left = length bytes; why = why })
  container-refused a rest why e row =
      let x = judged_so a rest e in
      x.1 ∙ ap (λ (o : Option Why). judged (length bytes) o (x.0, rest)) row

  pub container-opened : (a : Argument) (rest : List ℕ) → argument_at (head_at bytes) ≡ Ok (a, rest) → refused_by g room (get_or bytes 0 0 / 32) a ≡ None → container_at (opened g room bytes) ≡ Ok (kind (get_or bytes 0 0 / 32) a.value, rest)
  container-opened a rest e row =
      let x = judged_so a rest e in
      ap container_at (x.1 ∙ ap (λ (o : Option Why). judged (length bytes) o (x.0, rest)) row) ∙ ap (λ (k : Container). Ok (k, rest)) x.2

pub container_ok : (r : Result (Head × List ℕ) Stop) (k : Container) (rest : List ℕ) → container_at r ≡ Ok (k, rest) → (h : Head) × (r ≡ Ok (h, rest)) × (kind h.major h.argument ≡ k)
container_ok (Ok (h, t)) k rest e =
    let p = ok_is (kind h.major h.argument, t) (k, rest) e in
    (h, ap (λ (x : Container × List ℕ). Ok (h, x.1)) p, ap (λ (x : Container × List ℕ). x.0) p)
container_ok (Err stop) k rest e = absurd (err_ok _ _ e)
