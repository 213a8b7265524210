-- Containers under work, one inside the other: what the bytes come to, whatever follows them. The innermost stands first.
use Rattle.std.specs.Prelude.{◌≡◌, ◌≢◌, ℕ, ◌-◌, ◌<◌, ◌≤◌, List, [], ◌∷◌, ◌++◌, length, drop, Result, Ok, Err}
use Rattle.cbor_core.specs.declared.words.Grammar.{Grammar}
use Rattle.cbor_core.specs.declared.words.Why.{Why}
use Rattle.cbor_core.specs.declared.words.Why.TheVariants.{Truncated}
use Rattle.cbor_core.specs.declared.words.Fault.{Fault}
use Rattle.cbor_core.specs.declared.heads.Stop.{Stop}
use Rattle.cbor_core.specs.declared.tree.Item.{Item}
use Rattle.cbor_core.specs.Limits.{most_containers}
use Rattle.cbor_core.specs.Bytes.{IsBytes}
use Rattle.cbor_core.specs.Reading.{and_then, Reader, read_each, read_keyed, read_pairs, read_in, KeysRise}
use Rattle.cbor_feed.specs.declared.containers.Container.{Container}
use Rattle.cbor_feed.specs.declared.containers.Container.TheVariants.{Array, Map, Tag as TagOf}
use Rattle.cbor_feed.specs.declared.frames.Frame.{Frame}
use Rattle.cbor_feed.specs.declared.frames.Parts.{Parts}
use Rattle.cbor_feed.specs.declared.frames.Parts.TheVariants.{Items, Key, Value, Tag}
use Rattle.cbor_feed.specs.declared.walk.Settled.{Settled}
use Rattle.cbor_feed.specs.declared.walk.Settled.TheVariants.{Goes, Whole as AllWhole, Stuck as KeyStuck}
use Rattle.cbor_feed.specs.declared.walk.Walked.{Walked}
use Rattle.cbor_feed.specs.declared.walk.Walked.TheVariants.{Cut, Whole, Stuck}
use Rattle.cbor_feed.specs.Containers.{array_of, map_of, tag_of}
use Rattle.cbor_feed.specs.Frames.{span_in, AreIn}

-- a container whose head was read, and that holds at least one part
abbrev pub opened_parts : Container → Parts
opened_parts (Array n) = Items (n - 1) []
opened_parts (Map n) = Key (n - 1) [] (record { from = 0; to = 0 })
opened_parts (TagOf n) = Tag n

-- what a container comes to, once its next part, which begins there in all the bytes, was read with what follows it
abbrev pub handed : Grammar → Reader → Parts → List ℕ → ℕ → Item × List ℕ → Result (Item × List ℕ) Stop
handed g part (Items left items) all start x = and_then (read_each part left (items ++ x.0 ∷ []) x.1) array_of
handed g part (Key left pairs last) all start x =
    and_then (read_keyed g part pairs (span_in all last) (drop start all) x) (λ y. and_then (read_pairs g part left (pairs ++ y.0 ∷ []) y.1.0 y.1.1) map_of)
handed g part (Value left (pairs, key) text) all start x = and_then (read_pairs g part left (pairs ++ (key, x.0) ∷ []) (span_in all text) x.1) map_of
handed g part (Tag n) all start x = tag_of n x

-- how many containers may be opened inside these
abbrev pub room_of : List Frame → ℕ
room_of [] = most_containers
room_of (frame ∷ outer) = room_of outer - 1

-- where the next part of the innermost one begins
abbrev pub start_of : List Frame → ℕ
start_of [] = 0
start_of (frame ∷ outer) = frame.start

-- in strict the keys of a map so far have risen to the last one
abbrev pub HasRisen : Grammar → ℕ → Parts → List ℕ → Type 0
HasRisen g room (Items left items) held = Unit {0}
HasRisen g room (Key left pairs last) held = KeysRise g room pairs (span_in held last)
HasRisen g room (Value left (pairs, key) text) held = (value : Item) → KeysRise g room (pairs ++ (key, value) ∷ []) (span_in held text)
HasRisen g room (Tag n) held = Unit {0}

-- the container that begins there comes to what its next part makes of it, whatever follows the bytes held
pub record IsLevel (g : Grammar) (room begin : ℕ) (frame : Frame) (held : List ℕ) : Type 0 where
  pub room_left : 0 < room
  pub order : begin ≤ frame.start
  pub start : frame.start ≤ length held
  pub spans : AreIn frame.parts held
  pub risen : HasRisen g (room - 1) frame.parts held
  pub reads : (more : List ℕ) → read_in g room (drop begin (held ++ more)) ≡ and_then (read_in g (room - 1) (drop frame.start (held ++ more))) (handed g (read_in g (room - 1)) frame.parts (held ++ more) frame.start)

-- each of them does
abbrev pub Chain : Grammar → List Frame → List ℕ → Type 0
Chain g [] held = Unit {0}
Chain g (frame ∷ outer) held = IsLevel g (room_of outer) (start_of outer) frame held × Chain g outer held

-- the next part is this item, which ends there, whatever follows the bytes held
pub record IsRead (g : Grammar) (frames : List Frame) (held : List ℕ) (item : Item) (end : ℕ) : Type 0 where
  pub from : start_of frames ≤ end
  pub to : end ≤ length held
  pub reads : (more : List ℕ) → read_in g (room_of frames) (drop (start_of frames) (held ++ more)) ≡ Ok (item, drop end (held ++ more))

-- the first fault, which isn't that the bytes end
pub record IsStuck (g : Grammar) (held : List ℕ) (fault : Fault) : Type 0 where
  pub within : fault.at ≤ length held
  pub other : fault.why ≢ Truncated
  pub reads : read_in g most_containers held ≡ Err (record { left = length held - fault.at; why = fault.why })

-- the bytes end in the next part
pub record IsCut (g : Grammar) (frames : List Frame) (held : List ℕ) : Type 0 where
  pub bytes : IsBytes held
  pub chain : Chain g frames held
  pub place : start_of frames ≤ length held
  pub reads : read_in g (room_of frames) (drop (start_of frames) held) ≡ Err (record { left = length held - start_of frames; why = Truncated })

-- a fault there, by whether it is that the bytes end
abbrev pub IsStopped : ℕ → Why → Walked → Type 0
IsStopped at why Cut = why ≡ Truncated
IsStopped at why (Whole item end) = ⊥
IsStopped at why (Stuck fault) = (fault ≡ record { at = at; why = why }) × (why ≢ Truncated)

-- what a part came to that ends there
abbrev pub HasSettled : Grammar → List Frame → List ℕ → ℕ → Settled → Type 0
HasSettled g frames held end Goes = Chain g frames held × (start_of frames ≡ end)
HasSettled g frames held end (AllWhole item) = IsRead g [] held item end
HasSettled g frames held end (KeyStuck fault) = IsStuck g held fault

-- what the bytes held come to
abbrev pub HasWalked : Grammar → List Frame → List ℕ → Walked → Type 0
HasWalked g frames held Cut = IsCut g frames held
HasWalked g frames held (Whole item end) = IsRead g [] held item end
HasWalked g frames held (Stuck fault) = IsStuck g held fault
