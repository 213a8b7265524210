-- Reading as a function on lists: what the decoder computes, by the same levels as the spelling.
use Rattle.std.specs.Prelude.{◌≡◌, ℕ, zero, suc, ◌-◌, ◌<◌, ◌≤◌, true, false, ◌==◌, List, [], ◌∷◌, ◌++◌, length, take, drop, Option, Some, None, Result, Ok, Err, if◌then◌else◌}
use Rattle.cbor_core.specs.declared.words.Grammar.{Grammar}
use Rattle.cbor_core.specs.declared.words.Why.{Why}
use Rattle.cbor_core.specs.declared.words.Why.TheVariants.{TooDeep}
use Rattle.cbor_core.specs.declared.heads.Size.{Size}
use Rattle.cbor_core.specs.declared.heads.Size.TheVariants.{Within, One, Two, Four, Eight}
use Rattle.cbor_core.specs.declared.heads.Head.{Head}
use Rattle.cbor_core.specs.declared.heads.Stop.{Stop}
use Rattle.cbor_core.specs.declared.heads.ReadStop.{ReadStop}
use Rattle.cbor_core.specs.declared.heads.ReadStop.TheVariants.{Memory, At}
use Rattle.cbor_core.specs.declared.tree.Item.{Item}
use Rattle.cbor_core.specs.declared.tree.Node.TheVariants.{Uint, Nint, Bytes, Text, Array, Map, Tag, Simple, Float}
use Rattle.std.specs.Str.{is_utf8}
use Rattle.cbor_core.specs.Limits.{longest_string, most_parts}
use Rattle.cbor_core.specs.Head.{head_at, limit, least}
use Rattle.cbor_core.specs.Bytes.{is_below}
use Rattle.cbor_core.specs.declared.words.Grammar.TheVariants.{Strict}
use Rattle.cbor_core.specs.Spells.{is_strict, key_row, SpellsIn}
use Rattle.cbor_core.specs.Faults.{row_of, is_float}

-- what was given goes on to the next step, and a fault ends both
abbrev pub and_then : {A B E : Type 0} → Result A E → (A → Result B E) → Result B E
and_then (Err fault) next = Err fault
and_then (Ok given) next = next given

-- a row that applies is the fault
abbrev pub judged : {A : Type 0} → ℕ → Option Why → A → Result A Stop
judged left None x = Ok x
judged left (Some why) x = Err (record { left = left; why = why })

-- a head that was read is judged by the rows
abbrev pub opened_by : Grammar → ℕ → ℕ → Result (Head × List ℕ) Why → Result (Head × List ℕ) Stop
opened_by g room left (Ok x) = judged left (row_of g room x.0 x.1) x
opened_by g room left (Err why) = Err (record { left = left; why = why })

-- the head that no row refuses
abbrev pub opened : Grammar → ℕ → List ℕ → Result (Head × List ℕ) Stop
opened g room bytes = opened_by g room (length bytes) (head_at bytes)

-- what a reader of items gives
abbrev pub Reader : Type 0
Reader = List ℕ → Result (Item × List ℕ) Stop

-- so many items more behind those in front
unfoldable pub read_each : Reader → ℕ → List Item → List ℕ → Result (List Item × List ℕ) Stop
read_each part zero front bytes = Ok (front, bytes)
read_each part (suc count) front bytes = and_then (part bytes) (λ x. read_each part count (front ++ x.0 ∷ []) x.1)

-- the part of the bytes before the rest
abbrev pub front_of : List ℕ → List ℕ → List ℕ
front_of bytes rest = take (length bytes - length rest) bytes

-- behind a key that was read: the value, and with it the pair, the spelling of its key, and what follows
abbrev pub read_value : Reader → List ℕ → Item × List ℕ → Result ((Item × Item) × (List ℕ × List ℕ)) Stop
read_value part bytes key = and_then (part key.1) (λ value. Ok ((key.0, value.0), (front_of bytes key.1, value.1)))

-- the same of a key that may stand behind the earlier ones
abbrev pub read_keyed : Grammar → Reader → List (Item × Item) → List ℕ → List ℕ → Item × List ℕ → Result ((Item × Item) × (List ℕ × List ℕ)) Stop
read_keyed g part earlier last bytes key = and_then (judged (length bytes) (key_row g earlier last key.0 (front_of bytes key.1)) key) (read_value part bytes)

-- the pair at the front, the spelling of its key, and what follows
abbrev pub read_pair : Grammar → Reader → List (Item × Item) → List ℕ → List ℕ → Result ((Item × Item) × (List ℕ × List ℕ)) Stop
read_pair g part earlier last bytes = and_then (part bytes) (read_keyed g part earlier last bytes)

-- so many pairs more behind the earlier ones
unfoldable pub read_pairs : Grammar → Reader → ℕ → List (Item × Item) → List ℕ → List ℕ → Result (List (Item × Item) × List ℕ) Stop
read_pairs g part zero earlier last bytes = Ok (earlier, bytes)
read_pairs g part (suc count) earlier last bytes = and_then (read_pair g part earlier last bytes) (λ x. read_pairs g part count (earlier ++ x.0 ∷ []) x.1.0 x.1.1)

-- a simple value or a float, by the size of its head
abbrev pub seven : Size → ℕ → Item
seven Within n = record { node = Simple n }
seven One n = record { node = Simple n }
seven Two n = record { node = Float 2 n }
seven Four n = record { node = Float 4 n }
seven Eight n = record { node = Float 8 n }

-- an item that holds no other
abbrev pub read_leaf : Head → List ℕ → Item × List ℕ
read_leaf h rest =
    if h.major == 0 then (record { node = Uint h.argument }, rest)
    else (if h.major == 1 then (record { node = Nint h.argument }, rest)
    else (if h.major == 2 then (record { node = Bytes (take h.argument rest) }, drop h.argument rest)
    else (if h.major == 3 then (record { node = Text (take h.argument rest) }, drop h.argument rest)
    else (seven h.size h.argument, rest))))

-- an item that holds no other, as what reading gives
abbrev pub leaf_read : Head → List ℕ → Result (Item × List ℕ) Stop
leaf_read h rest = Ok (read_leaf h rest)

-- the item behind a head that no row refuses
abbrev pub read_body : Grammar → Reader → Head → List ℕ → Result (Item × List ℕ) Stop
read_body g part h rest =
    if h.major == 4 then and_then (read_each part h.argument [] rest) (λ x. Ok (record { node = Array x.0 }, x.1))
    else (if h.major == 5 then and_then (read_pairs g part h.argument [] [] rest) (λ x. Ok (record { node = Map x.0 }, x.1))
    else (if h.major == 6 then and_then (part rest) (λ x. Ok (record { node = Tag h.argument x.0 }, x.1))
    else leaf_read h rest))

-- the readers of parts where no container may be opened: they are never asked
abbrev pub no_part : Reader
no_part rest = Err (record { left = length rest; why = TooDeep })

-- the item at the front, with so many containers still to open
unfoldable pub read_in : Grammar → ℕ → Reader
read_in g zero bytes = and_then (opened g 0 bytes) (λ x. read_body g no_part x.0 x.1)
read_in g (suc room) bytes = and_then (opened g (suc room) bytes) (λ x. read_body g (read_in g room) x.0 x.1)

-- the reader of the parts of a container
abbrev pub part_in : Grammar → ℕ → Reader
part_in g zero = no_part
part_in g (suc room) = read_in g room

-- a head that was read and that no row refuses
pub record IsOpen (g : Grammar) (room : ℕ) (h : Head) (rest : List ℕ) : Type 0 where
  pub major : h.major < 8
  pub argument : h.argument < limit h.size
  pub shortest : is_strict g ≡ true → h.major < 7 → least h.size ≤ h.argument
  pub no_float : is_strict g ≡ true → h.major ≡ 7 → is_float h.size ≡ false
  pub string_limit : 2 ≤ h.major → h.major < 4 → h.argument ≤ longest_string
  pub list_limit : 4 ≤ h.major → h.major < 6 → h.argument ≤ most_parts
  pub room_left : 4 ≤ h.major → h.major < 7 → 0 < room
  pub content : 2 ≤ h.major → h.major < 4 → h.argument ≤ length rest
  pub text : h.major ≡ 3 → is_utf8 (take h.argument rest) ≡ true

-- each earlier key is at most the last
unfoldable pub Risen : (Item → List ℕ → Type 0) → List (Item × Item) → List ℕ → Type 0
Risen Part [] last = Unit {0}
Risen Part (pair ∷ pairs) last = ((t : List ℕ) × Part pair.0 t × (is_below last t ≡ false)) × Risen Part pairs last

-- in strict the keys so far have risen to the last
abbrev pub KeysRise : Grammar → ℕ → List (Item × Item) → List ℕ → Type 0
KeysRise g room earlier last = is_strict g ≡ true → Risen (SpellsIn Strict room) earlier last

-- the key behind them is spelled so
abbrev pub KeyStands : Grammar → ℕ → Item → List ℕ → Type 0
KeyStands g room key text = is_strict g ≡ true → SpellsIn Strict room key text

-- the code's stop is that of reading; want of memory is no answer of reading
abbrev pub StopsAs : {Y : Type 0} → ReadStop → Result Y Stop → Type 0
StopsAs (At stop) reading = reading ≡ Err stop
StopsAs Memory reading = Unit {0}

-- the code's answer is that of reading, once `view` has turned what it gave into plain values
abbrev pub ReadsAs : {X Y : Type 0} → (X → Y) → Result X ReadStop → Result Y Stop → Type 0
ReadsAs view (Err stop) reading = StopsAs stop reading
ReadsAs view (Ok given) reading = reading ≡ Ok (view given)
