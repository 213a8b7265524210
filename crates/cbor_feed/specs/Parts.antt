-- What stands at the front of bytes, whatever follows them.
use Rattle.std.specs.Prelude.{◌≡◌, ℕ, ◌-◌, ◌<◌, ◌≤◌, ◌==◌, List, [], ◌++◌, length, drop, Result, Ok, Err, if◌then◌else◌}
use Rattle.cbor_core.specs.declared.words.Grammar.{Grammar}
use Rattle.cbor_core.specs.declared.tree.Item.{Item}
use Rattle.cbor_core.specs.declared.tree.Node.TheVariants.{Array as ArrayNode, Map as MapNode}
use Rattle.cbor_core.specs.Reading.{read_in}
use Rattle.cbor_feed.specs.declared.containers.Container.{Container}
use Rattle.cbor_feed.specs.declared.containers.Container.TheVariants.{Array, Map, Tag}
use Rattle.cbor_feed.specs.declared.parts.Part.{Part}
use Rattle.cbor_feed.specs.declared.parts.Part.TheVariants.{Whole, Opens}
use Rattle.cbor_feed.specs.declared.parts.PartStop.{PartStop}
use Rattle.cbor_feed.specs.declared.parts.PartStop.TheVariants.{At, Memory}
use Rattle.cbor_feed.specs.Containers.{read_container, HasPart}

-- a container of which the head is there: an empty array or map is whole
abbrev pub opening : Container → ℕ → Part
opening (Array n) len = if n == 0 then Whole (record { node = ArrayNode [] }) len else Opens (Array n) len
opening (Map n) len = if n == 0 then Whole (record { node = MapNode [] }) len else Opens (Map n) len
opening (Tag n) len = Opens (Tag n) len

-- so many bytes at the front are the item, whatever follows the bytes
pub record IsWhole (g : Grammar) (room : ℕ) (bytes : List ℕ) (item : Item) (len : ℕ) : Type 0 where
  pub some : 0 < len
  pub within : len ≤ length bytes
  pub reads : (more : List ℕ) → read_in g room (bytes ++ more) ≡ Ok (item, drop len bytes ++ more)

-- so many bytes at the front are the head of the container, and then its parts are read
pub record IsOpening (g : Grammar) (room : ℕ) (bytes : List ℕ) (container : Container) (len : ℕ) : Type 0 where
  pub some : 0 < len
  pub within : len ≤ length bytes
  pub room_left : 0 < room
  pub parts : HasPart container
  pub reads : (more : List ℕ) → read_in g room (bytes ++ more) ≡ read_container g (read_in g (room - 1)) container (drop len bytes ++ more)

abbrev pub IsPartThere : Grammar → ℕ → List ℕ → Part → Type 0
IsPartThere g room bytes (Whole item len) = IsWhole g room bytes item len
IsPartThere g room bytes (Opens container len) = IsOpening g room bytes container len

-- what was found at the front
abbrev pub IsPart : Grammar → ℕ → List ℕ → Result Part PartStop → Type 0
IsPart g room bytes (Ok part) = IsPartThere g room bytes part
IsPart g room bytes (Err (At why)) = read_in g room bytes ≡ Err (record { left = length bytes; why = why })
IsPart g room bytes (Err Memory) = Unit {0}
