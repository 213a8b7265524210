-- Every list of calls, stops and loads of a key file.
use Rattle.std.specs.Prelude.{◌≡◌, ℕ, ◌+◌, ◌≤◌, List, [], ◌∷◌, None, Result, Ok, Err}
use Rattle.key_store.specs.declared.records.KeyHead.{KeyHead}
use Rattle.key_store.specs.declared.stops.TakeStop.{TakeStop}
use Rattle.key_store.specs.Records.{IsHead}
use Rattle.key_store.specs.Keys.{KeyStanding, IsSound, Takes, LeftBy, reserved_of}

-- a call that took an index or was refused, or a crash at any moment and a load after it; a load of a file that was closed
-- is one too, since what a read gives is what a crash may leave
pub data KeyEvent : Type 0 where
  takes : Result ℕ TakeStop → KeyEvent
  stops : KeyEvent

-- a load goes on with the list that it finds, from the last reservation on
abbrev pub reloaded : List (List ℕ) → KeyStanding
reloaded L = record { records = L; pending = None; next = reserved_of L }

abbrev pub Occurs : KeyHead → KeyStanding → KeyEvent → KeyStanding → Type 0
Occurs head S (takes answer) T = Takes head S answer T
Occurs head S stops T = (L : List (List ℕ)) × LeftBy head S L × (T ≡ reloaded L)

-- these events, one after another
abbrev pub Runs : KeyHead → KeyStanding → List KeyEvent → KeyStanding → Type 0
Runs head S [] T = T ≡ S
Runs head S (event ∷ events) T = (M : KeyStanding) × Occurs head S event M × Runs head M events T

-- the indices that were given, in this order
abbrev pub given : List KeyEvent → List ℕ
given [] = []
given (takes (Ok index) ∷ events) = index ∷ given events
given (takes (Err stop) ∷ events) = given events
given (stops ∷ events) = given events

-- each number is this one or above it
abbrev pub AllFrom : ℕ → List ℕ → Type 0
AllFrom least [] = Unit {0}
AllFrom least (index ∷ indices) = (least ≤ index) × AllFrom least indices

-- each number is below all later ones, so that none stands twice
abbrev pub Rise : List ℕ → Type 0
Rise [] = Unit {0}
Rise (index ∷ indices) = AllFrom (index + 1) indices × Rise indices

-- no index is given twice, and none that is below the next one at the start
abbrev pub NoIndexTwice : Type 0
NoIndexTwice =
    (head : KeyHead) (S T : KeyStanding) (events : List KeyEvent) → IsHead head → IsSound head S → Runs head S events T → Rise (given events) × AllFrom S.next (given events)

-- and what a load finds after any of them is a key file of the same key
abbrev pub StaysSound : Type 0
StaysSound =
    (head : KeyHead) (S T : KeyStanding) (events : List KeyEvent) → IsHead head → IsSound head S → Runs head S events T → IsSound head T
