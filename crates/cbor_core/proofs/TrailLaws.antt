-- No fault of an item is that something follows it.
use Rattle.std.proofs.Common.{◌≡◌, ℕ, zero, suc, ◌-◌, ◌++◌, Bool, true, false, cond, List, [], ◌∷◌, length, Option, Some, None, Result, Ok, Err, inl, inr, ◌∙◌}
use Rattle.cbor_core.specs.declared.words.Grammar.{Grammar}
use Rattle.cbor_core.specs.declared.words.Why.{Why}
use Rattle.cbor_core.specs.declared.words.Why.TheVariants.{Truncated, Reserved, Indefinite, DupKey, KeyOrder, Trailing}
use Rattle.cbor_core.specs.declared.heads.Size.{Size}
use Rattle.cbor_core.specs.declared.heads.Size.TheVariants.{One, Two, Four, Eight}
use Rattle.cbor_core.specs.declared.heads.Head.{Head}
use Rattle.cbor_core.specs.declared.tree.Item.{Item}
use Rattle.cbor_core.specs.Limits.{most_containers}
use Rattle.cbor_core.specs.Rows.{first_row}
use Rattle.cbor_core.specs.Head.{head_at, sized}
use Rattle.cbor_core.specs.Spells.{SpellsIn, key_row}
use Rattle.cbor_core.specs.Faults.{rows, row_of, StuckAtHead, StuckInPairs, StuckAtPair, StuckInside, Stuck}
use Rattle.cbor_core.specs.Decoding.{NeverTrailing}

-- an error of this result isn't that something follows
abbrev FineErr : {A : Type 0} → Result A Why → Type 0
FineErr r = (why : Why) → r ≡ Err why → why ≡ Trailing → ⊥

-- a row of this table isn't that something follows
abbrev FineRow : Option Why → Type 0
FineRow o = (why : Why) → o ≡ Some why → why ≡ Trailing → ⊥

err_if : {A : Type 0} (b : Bool) (x y : Result A Why) → FineErr x → FineErr y → FineErr (cond b x y)
err_if true x y p q = p
err_if false x y p q = q

row_if : (b : Bool) (x y : Option Why) → FineRow x → FineRow y → FineRow (cond b x y)
row_if true x y p q = p
row_if false x y p q = q

err_is : {A : Type 0} (w : Why) → (w ≡ Trailing → ⊥) → FineErr {A = A} (Err w)
err_is w fine = λ why e t. let same : w ≡ why = cc in fine (same ∙ t)

row_is : (w : Why) → (w ≡ Trailing → ⊥) → FineRow (Some w)
row_is w fine = λ why e t. let same : w ≡ why = cc in fine (same ∙ t)

fine_ok : {A : Type 0} (x : A) → FineErr (Ok x)
fine_ok x = λ why e t. cc

fine_none : FineRow None
fine_none = λ why e t. cc

fine_sized : (first : ℕ) (size : Size) (rest : List ℕ) → FineErr (sized first size rest)
fine_sized first size rest =
    err_if _ _ _ (err_is Truncated (λ t. cc)) (err_if _ _ _ (err_is Reserved (λ t. cc)) (fine_ok _))

fine_head : (bytes : List ℕ) → FineErr (head_at bytes)
unfolding head_at
fine_head [] = err_is Truncated (λ t. cc)
fine_head (b ∷ rest) =
    err_if _ _ _ (fine_ok _)
    (err_if _ _ _ (fine_sized b One rest)
    (err_if _ _ _ (fine_sized b Two rest)
    (err_if _ _ _ (fine_sized b Four rest)
    (err_if _ _ _ (fine_sized b Eight rest)
    (err_if _ _ _ (err_is Reserved (λ t. cc)) (err_is Indefinite (λ t. cc)))))))

-- no row of a table is that something follows
abbrev NoneTrails : List (Bool × Why) → Type 0
NoneTrails [] = Unit {0}
NoneTrails (row ∷ table) = (row.1 ≡ Trailing → ⊥) × NoneTrails table

fine_first : (table : List (Bool × Why)) → NoneTrails table → FineRow (first_row table)
fine_first [] none = fine_none
fine_first (row ∷ table) none = row_if row.0 _ _ (row_is row.1 none.0) (fine_first table none.1)

fine_row : (g : Grammar) (room : ℕ) (h : Head) (rest : List ℕ) → FineRow (row_of g room h rest)
fine_row g room h rest =
    fine_first (rows g room h rest) (λ t. cc, (λ t. cc, (λ t. cc, (λ t. cc, (λ t. cc, (λ t. cc, (λ t. cc, tt)))))))

fine_key : (g : Grammar) (earlier : List (Item × Item)) (last : List ℕ) (item : Item) (text : List ℕ) → FineRow (key_row g earlier last item text)
fine_key g earlier last item text = row_if _ _ _ (row_is DupKey (λ t. cc)) (row_if _ _ _ (row_is KeyOrder (λ t. cc)) fine_none)

-- no fault of a part is that something follows
abbrev Fine : (List ℕ → ℕ → Why → Type 0) → Type 0
Fine Inner = (bytes : List ℕ) (left : ℕ) (why : Why) → Inner bytes left why → why ≡ Trailing → ⊥

fine_at_head : (g : Grammar) (room : ℕ) (bytes : List ℕ) (why : Why) → StuckAtHead g room bytes why → why ≡ Trailing → ⊥
fine_at_head g room bytes why (inl e) t = fine_head bytes why e t
fine_at_head g room bytes why (inr (h, rest, read, row)) t = fine_row g room h rest why row t

fine_at_pair : (g : Grammar) (Part : Item → List ℕ → Type 0) (Inner : List ℕ → ℕ → Why → Type 0) → Fine Inner → (earlier : List (Item × Item)) (last bytes : List ℕ) (left : ℕ) (why : Why)
    → StuckAtPair g Part Inner earlier last bytes left why → why ≡ Trailing → ⊥
fine_at_pair g Part Inner fine earlier last bytes left why (inl inner) t = fine bytes left why inner t
fine_at_pair g Part Inner fine earlier last bytes left why (inr (item, key, rest, part, is, inl row)) t = fine_key g earlier last item key why row.0 t
fine_at_pair g Part Inner fine earlier last bytes left why (inr (item, key, rest, part, is, inr inner)) t = fine rest left why inner.1 t

fine_in_pairs : (g : Grammar) (Part : Item → List ℕ → Type 0) (Inner : List ℕ → ℕ → Why → Type 0) → Fine Inner
    → (count : ℕ) (earlier : List (Item × Item)) (last bytes : List ℕ) (left : ℕ) (why : Why) → StuckInPairs g Part Inner count earlier last bytes left why → why ≡ Trailing → ⊥
unfolding StuckInPairs
fine_in_pairs g Part Inner fine zero earlier last bytes left why stuck t = stuck
fine_in_pairs g Part Inner fine (suc count) earlier last bytes left why (inl here) t = fine_at_pair g Part Inner fine earlier last bytes left why here t
fine_in_pairs g Part Inner fine (suc count) earlier last bytes left why (inr (pair, key, value, rest, k, row, v, is, later)) t =
    fine_in_pairs g Part Inner fine count (earlier ++ pair ∷ []) key rest left why later t

fine_inside : (g : Grammar) (room : ℕ) (Part : Item → List ℕ → Type 0) (Inner : List ℕ → ℕ → Why → Type 0) → Fine Inner → Fine (StuckInside g room Part Inner)
fine_inside g room Part Inner fine bytes left why (h, rest, read, row, inl array) t =
    let after = array.1 in fine after.2 left why after.5 t
fine_inside g room Part Inner fine bytes left why (h, rest, read, row, inr (inl map)) t = fine_in_pairs g Part Inner fine h.argument [] [] rest left why map.1 t
fine_inside g room Part Inner fine bytes left why (h, rest, read, row, inr (inr tag)) t = fine rest left why tag.1 t

fine_stuck : (g : Grammar) (room : ℕ) → Fine (Stuck g room)
unfolding Stuck
fine_stuck g zero bytes left why stuck t = fine_at_head g 0 bytes why stuck.0 t
fine_stuck g (suc room) bytes left why (inl head) t = fine_at_head g (suc room) bytes why head.0 t
fine_stuck g (suc room) bytes left why (inr inside) t = fine_inside g (suc room) (SpellsIn g room) (Stuck g room) (fine_stuck g room) bytes left why inside t

pub never_trailing : NeverTrailing
never_trailing = λ g depth bytes at why fault t. fine_stuck g (most_containers - depth) bytes (length bytes - at) why fault.1 t
