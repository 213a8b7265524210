-- What a feed answers.
use Rattle.std.specs.Prelude.{◌≡◌, ◌≢◌, ℕ, ◌<◌, ◌≤◌, List, ◌++◌, length, take, Option, Some, None, Result, Ok, Err}
use Rattle.cbor_core.specs.declared.words.Grammar.{Grammar}
use Rattle.cbor_core.specs.declared.words.Why.TheVariants.{Truncated}
use Rattle.cbor_core.specs.declared.words.DecodeStop.{DecodeStop}
use Rattle.cbor_core.specs.declared.words.DecodeStop.TheVariants.{Fault as AtFault, OutOfMemory}
use Rattle.cbor_core.specs.declared.tree.Item.{Item}
use Rattle.cbor_core.specs.Spells.{Spells}
use Rattle.cbor_core.specs.Faults.{FaultIn}
use Rattle.cbor_feed.specs.declared.words.Fed.{Fed}
use Rattle.cbor_feed.specs.declared.words.Fed.TheVariants.{NeedMore, Done, Fault as FaultFed, OutOfMemory as Exhausted}

-- a feed: the grammar of its item, the bytes that it was fed, up to the item's end, and the answer that it repeats, once there is one
pub record Feeding : Type 0 where
  pub grammar : Grammar
  pub fed : List ℕ
  pub last : Option Fed

-- the bytes spell an item
abbrev pub IsSpelled : Grammar → List ℕ → Type 0
IsSpelled g bytes = (item : Item) × Spells g item bytes

-- the first fault of the bytes is that they end too early
abbrev pub IsTruncated : Grammar → List ℕ → Type 0
IsTruncated g bytes = (at : ℕ) × FaultIn g 0 bytes at Truncated

-- the answer to a piece of a feed that is open: by the decoding of all the bytes so far
abbrev pub Answers : Feeding → List ℕ → Fed → Feeding → Type 0
Answers old piece NeedMore new =
    IsTruncated old.grammar (old.fed ++ piece) × (new ≡ record { grammar = old.grammar; fed = old.fed ++ piece; last = None })
Answers old piece (Done n) new =
    (0 < n) × (n ≤ length piece) × IsSpelled old.grammar (old.fed ++ take n piece)
    × (new ≡ record { grammar = old.grammar; fed = old.fed ++ take n piece; last = Some (Done 0) })
Answers old piece (FaultFed fault) new =
    (fault.why ≢ Truncated) × FaultIn old.grammar 0 (old.fed ++ piece) fault.at fault.why
    × (new ≡ record { grammar = old.grammar; fed = old.fed ++ piece; last = Some (FaultFed fault) })
Answers old piece Exhausted new = (new.grammar ≡ old.grammar) × (new.last ≡ Some Exhausted)

-- what a feed gives in the end: the item, the stop that it had, or the fault that its bytes end too early
abbrev pub Gives : Grammar → List ℕ → Option Fed → Result Item DecodeStop → Type 0
Gives g fed None (Err (AtFault fault)) = (fault.why ≡ Truncated) × FaultIn g 0 fed fault.at fault.why
Gives g fed None answer = ⊥
Gives g fed (Some (Done n)) (Ok item) = Spells g item fed
Gives g fed (Some (Done n)) (Err stop) = ⊥
Gives g fed (Some (FaultFed fault)) answer = answer ≡ Err (AtFault fault)
Gives g fed (Some Exhausted) answer = answer ≡ Err OutOfMemory
Gives g fed (Some NeedMore) answer = ⊥

abbrev pub Finishes : Feeding → Result Item DecodeStop → Type 0
Finishes feed answer = Gives feed.grammar feed.fed feed.last answer
