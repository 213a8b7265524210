-- What a feed keeps.
use Rattle.std.specs.Prelude.{List, ℕ, Option, Some, None, reverse}
use Rattle.cbor_core.specs.declared.words.Grammar.{Grammar}
use Rattle.cbor_core.specs.Spells.{Spells}
use Rattle.cbor_feed.specs.declared.words.Fed.{Fed}
use Rattle.cbor_feed.specs.declared.words.Fed.TheVariants.{Done, Fault, OutOfMemory}
use Rattle.cbor_feed.specs.declared.frames.Frame.{Frame}
use Rattle.cbor_feed.specs.declared.feed.Ended.{Ended}
use Rattle.cbor_feed.specs.declared.feed.Ended.TheVariants.{Whole, Failed, Exhausted}
use Rattle.cbor_feed.specs.Chains.{IsCut}

-- the answer that is repeated
abbrev pub said : Ended → Fed
said (Whole item) = Done 0
said (Failed fault) = Fault fault
said Exhausted = OutOfMemory

-- an open feed has containers under work in which its bytes end; one that is done has the item that they spell
abbrev pub Keeps : Grammar → List ℕ → List Frame → Option Ended → Type 0
Keeps g held frames None = IsCut g (reverse frames) held
Keeps g held frames (Some (Whole item)) = Spells g item held
Keeps g held frames (Some (Failed fault)) = Unit {0}
Keeps g held frames (Some Exhausted) = Unit {0}
