-- A feed answers to any pieces as a decoder of all their bytes does.
use Rattle.std.specs.Prelude.{◌≡◌, ℕ, ◌+◌, List, [], ◌∷◌, ◌++◌, length, None, Result, Ok, Err}
use Rattle.cbor_core.specs.declared.words.Grammar.{Grammar}
use Rattle.cbor_core.specs.declared.words.Why.TheVariants.{Truncated}
use Rattle.cbor_core.specs.declared.words.DecodeStop.{DecodeStop}
use Rattle.cbor_core.specs.declared.words.DecodeStop.TheVariants.{Fault as AtFault, OutOfMemory}
use Rattle.cbor_core.specs.declared.tree.Item.{Item}
use Rattle.cbor_core.specs.Decoding.{Decoded}
use Rattle.cbor_feed.specs.declared.words.Fed.{Fed}
use Rattle.cbor_feed.specs.declared.words.Fed.TheVariants.{NeedMore, Done, Fault as FaultFed, OutOfMemory as Exhausted}
use Rattle.cbor_feed.specs.Feeding.{Feeding, Answers, Finishes}

-- the answer to a piece behind so many bytes says what a decoder of all of them says, unless memory ran out
abbrev pub Agrees : ℕ → Fed → Result (Item × ℕ) DecodeStop → Type 0
Agrees before answer (Err OutOfMemory) = Unit {0}
Agrees before NeedMore (Ok found) = ⊥
Agrees before NeedMore (Err (AtFault fault)) = fault.why ≡ Truncated
Agrees before (Done n) (Ok found) = found.1 ≡ before + n
Agrees before (Done n) (Err (AtFault fault)) = ⊥
Agrees before (FaultFed own) (Ok found) = ⊥
Agrees before (FaultFed own) (Err (AtFault fault)) = fault ≡ own
Agrees before Exhausted answer = Unit {0}

-- what a feed gives in the end is the item or the fault of the decoder, unless memory ran out
abbrev pub EndsAlike : Result Item DecodeStop → Result (Item × ℕ) DecodeStop → Type 0
EndsAlike answer (Err OutOfMemory) = Unit {0}
EndsAlike (Ok item) (Ok found) = found.0 ≡ item
EndsAlike (Ok item) (Err (AtFault fault)) = ⊥
EndsAlike (Err (AtFault own)) (Ok found) = ⊥
EndsAlike (Err (AtFault own)) (Err (AtFault fault)) = fault ≡ own
EndsAlike (Err OutOfMemory) answer = Unit {0}

-- the bytes of the pieces
abbrev pub joined : List (List ℕ) → List ℕ
joined [] = []
joined (piece ∷ pieces) = piece ++ joined pieces

-- a feed without bytes
abbrev pub fresh : Grammar → Feeding
fresh g = record { grammar = g; fed = []; last = None }

-- what a feed is behind pieces of which each was answered that more are needed
abbrev pub WasFed : Feeding → List (List ℕ) → Feeding → Type 0
WasFed feed [] now = now ≡ feed
WasFed feed (piece ∷ pieces) now = (next : Feeding) × Answers feed piece NeedMore next × WasFed next pieces now

-- the piece behind them is answered as all the bytes are
abbrev pub AsTheWhole : Type 0
AsTheWhole =
    (g : Grammar) (pieces : List (List ℕ)) (piece : List ℕ) (feed new : Feeding) (answer : Fed) (decoded : Result (Item × ℕ) DecodeStop)
    → WasFed (fresh g) pieces feed → Answers feed piece answer new → Decoded g (joined pieces ++ piece) decoded → Agrees (length (joined pieces)) answer decoded

-- and the feed gives in the end what all the bytes come to
abbrev pub EndsAsTheWhole : Type 0
EndsAsTheWhole =
    (g : Grammar) (pieces : List (List ℕ)) (piece : List ℕ) (feed new : Feeding) (answer : Fed) (end : Result Item DecodeStop) (decoded : Result (Item × ℕ) DecodeStop)
    → WasFed (fresh g) pieces feed → Answers feed piece answer new → Finishes new end → Decoded g (joined pieces ++ piece) decoded → EndsAlike end decoded
