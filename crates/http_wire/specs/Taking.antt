-- What a call of the wire takes from a link, and what it answers.
use Rattle.std.specs.Prelude.{◌≡◌, ℕ, ◌<◌, ◌≤◌, List, [], ◌++◌, length, Option, Some, None, ⊤}
use Rattle.std.specs.Io.KnownBytes.{Consumes, IsAtEnd}
use Rattle.scitt_io.specs.Causes.{Rose}
use Rattle.http_wire.specs.declared.request.Next.{Next}
use Rattle.http_wire.specs.declared.request.Next.TheVariants as next
use Rattle.http_wire.specs.declared.request.Stop.{Stop}
use Rattle.http_wire.specs.declared.request.Stop.TheVariants as stop
use Rattle.http_wire.specs.Requests.{IsRequest, IsHeadFault, EndsInside}

-- what contracts see of a wire: the bytes read and not given yet, and the answer that it repeats
pub record Waiting : Type 0 where
  pub held : List ℕ
  pub stop : Option Stop

-- bytes were taken from the source and put behind those that were held
pub record Gathers (old new : List ℕ) (left left' : Option (List ℕ)) : Type 0 where
  pub bytes : List ℕ
  pub taken : Consumes left left' bytes
  pub held : new ≡ old ++ bytes

abbrev pub Stops : List ℕ → Option (List ℕ) → Stop → Type 0
Stops bytes left stop.Ended = (bytes ≡ []) × IsAtEnd left
Stops bytes left stop.CutShort = EndsInside bytes × IsAtEnd left
Stops bytes left (stop.Refused fault of_head) = IsHeadFault bytes fault of_head
Stops bytes left stop.ReadFault = ⊤
Stops bytes left stop.OutOfMemory = ⊤

abbrev pub next_of : Stop → Next
next_of stop.Ended = next.Ended
next_of stop.CutShort = next.CutShort
next_of (stop.Refused fault of_head) = next.Refused fault of_head
next_of stop.ReadFault = next.ReadFault
next_of stop.OutOfMemory = next.OutOfMemory

-- what the answer says of the bytes that were held or taken, with what is left and what is held behind it
abbrev pub Gives : List ℕ → Option (List ℕ) → Next → List ℕ → Type 0
Gives bytes left (next.Request q) held = IsRequest bytes q held
Gives bytes left next.Ended held = Stops bytes left stop.Ended
Gives bytes left next.CutShort held = Stops bytes left stop.CutShort
Gives bytes left (next.Refused fault of_head) held = IsHeadFault bytes fault of_head
Gives bytes left next.ReadFault held = ⊤
Gives bytes left next.OutOfMemory held = ⊤

-- some bytes were taken, and the answer is that of those held and these
pub record Takes (old : List ℕ) (left left' : Option (List ℕ)) (answer : Next) (new : List ℕ) : Type 0 where
  pub bytes : List ℕ
  pub taken : Consumes left left' bytes
  pub gives : Gives (old ++ bytes) left' answer new

pub record Fails (old : List ℕ) (left left' : Option (List ℕ)) (why : Stop) : Type 0 where
  pub bytes : List ℕ
  pub taken : Consumes left left' bytes
  pub stops : Stops (old ++ bytes) left' why

-- the count of a source over a call: it never falls, and rises exactly where the call failed
pub record HasReadCause (before now : ℕ) (failed : Type 0) : Type 0 where
  pub later : before ≤ now
  pub rose : failed → Rose before now
  pub kept : (failed → ⊥) → now ≡ before

-- the input ended before there were so many bytes
pub record FillsShort (old : List ℕ) (size : ℕ) (left left' : Option (List ℕ)) : Type 0 where
  pub bytes : List ℕ
  pub taken : Consumes left left' bytes
  pub short : length (old ++ bytes) < size
  pub end : IsAtEnd left'

-- what the wire repeats from then on
abbrev pub stop_of : Next → Option Stop
stop_of (next.Request q) = None
stop_of next.Ended = Some stop.Ended
stop_of next.CutShort = Some stop.CutShort
stop_of (next.Refused fault of_head) = Some (stop.Refused fault of_head)
stop_of next.ReadFault = Some stop.ReadFault
stop_of next.OutOfMemory = Some stop.OutOfMemory
