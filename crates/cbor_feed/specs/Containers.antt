-- The containers by their heads (RFC 8949, 3.1 and 3.4), and how what is in them is read.
use Rattle.std.specs.Prelude.{ℕ, ◌<◌, ◌&&◌, ◌==◌, List, [], Option, Some, None, Result, Ok, Err, nat_lt, if◌then◌else◌}
use Rattle.cbor_core.specs.declared.words.Grammar.{Grammar}
use Rattle.cbor_core.specs.declared.words.Why.{Why}
use Rattle.cbor_core.specs.declared.words.Why.TheVariants.{NotShortest, TooLong, TooDeep}
use Rattle.cbor_core.specs.declared.heads.Head.{Head}
use Rattle.cbor_core.specs.declared.heads.Stop.{Stop}
use Rattle.cbor_core.specs.declared.tree.Item.{Item}
use Rattle.cbor_core.specs.declared.tree.Node.TheVariants.{Array as ArrayNode, Map as MapNode, Tag as TagNode}
use Rattle.cbor_core.specs.Limits.{most_parts}
use Rattle.cbor_core.specs.Spells.{is_strict}
use Rattle.cbor_core.specs.Reading.{and_then, Reader, read_each, read_pairs}
use Rattle.cbor_feed.specs.declared.heads.Argument.{Argument}
use Rattle.cbor_feed.specs.declared.containers.Container.{Container}
use Rattle.cbor_feed.specs.declared.containers.Container.TheVariants.{Array, Map, Tag}

-- a container by the major type of its head and its argument
abbrev pub kind : ℕ → ℕ → Container
kind major n = if major == 4 then Array n else (if major == 5 then Map n else Tag n)

-- why a container's head is refused, where so many containers may still be opened
abbrev pub refused_by : Grammar → ℕ → ℕ → Argument → Option Why
refused_by g room major a =
    if is_strict g && nat_lt a.value a.least then Some NotShortest
    else (if nat_lt major 6 && nat_lt most_parts a.value then Some TooLong
    else (if room == 0 then Some TooDeep
    else None))

-- of a head that was read, its container
abbrev pub container_at : Result (Head × List ℕ) Stop → Result (Container × List ℕ) Stop
container_at (Ok (h, rest)) = Ok (kind h.major h.argument, rest)
container_at (Err stop) = Err stop

abbrev pub array_of : List Item × List ℕ → Result (Item × List ℕ) Stop
array_of x = Ok (record { node = ArrayNode x.0 }, x.1)

abbrev pub map_of : List (Item × Item) × List ℕ → Result (Item × List ℕ) Stop
map_of x = Ok (record { node = MapNode x.0 }, x.1)

abbrev pub tag_of : ℕ → Item × List ℕ → Result (Item × List ℕ) Stop
tag_of n x = Ok (record { node = TagNode n x.0 }, x.1)

-- what a container comes to behind its head
abbrev pub read_container : Grammar → Reader → Container → List ℕ → Result (Item × List ℕ) Stop
read_container g part (Array n) rest = and_then (read_each part n [] rest) array_of
read_container g part (Map n) rest = and_then (read_pairs g part n [] [] rest) map_of
read_container g part (Tag n) rest = and_then (part rest) (tag_of n)

-- it holds at least one part
abbrev pub HasPart : Container → Type 0
HasPart (Array n) = 0 < n
HasPart (Map n) = 0 < n
HasPart (Tag n) = Unit {0}
