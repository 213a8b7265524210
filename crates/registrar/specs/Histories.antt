-- Whole histories of a registrar: turns, and stops at any moment.
use Rattle.std.specs.Prelude.{◌≡◌, ℕ, ◌⊎◌, List, [], ◌∷◌, ◌++◌, Bool, IsTrue, None, Some, Contains, slice_get}
use Rattle.statement.specs.Said.{Said}
use Rattle.log_replay.specs.Records.{Log, reserved_of, leaves_of}
use Rattle.log_replay.specs.WellMade.{WellMade}
use Rattle.registrar.specs.declared.words.Outcome.TheVariants.{Admitted}
use Rattle.registrar.specs.Turns.{Standing, IsSound, Call, Answer, Turn, register_call, registered, ruling_of, goes, new_entry, log_with, ready_log, IsBatch}

-- what an image may recover between two calls
abbrev pub BetweenCalls : Standing → Log → Type 0
BetweenCalls S L = (L ≡ S.log) ⊎ (L ≡ log_with S.pending S.log)

-- what an image may recover inside a registration of these entries
abbrev pub InsideCall : Standing → List (List ℕ) → Log → Type 0
InsideCall S entries L =
    BetweenCalls S L ⊎ ((L ≡ ready_log S) ⊎ ((body : List ℕ) × IsBatch entries S.next body × (L ≡ ready_log S ++ body ∷ [])))

-- ---- histories

-- loading goes on with the list that an image recovers, the next index being its reservation
pub record Reloads (L : Log) (new : Standing) : Type 0 where
  pub log : new.log ≡ L
  pub next : new.next ≡ reserved_of L
  pub pending : new.pending ≡ None

-- a turn, a stop between two calls, or one inside a registration of these entries
pub data Event : Type 0 where
  turn : Call → Answer → Event
  stop : Event
  stop_inside : List (List ℕ) → Event

-- an event, on a disk that tells what it holds or doesn't
abbrev pub Happens : Bool → Standing → Event → Standing → Type 0
Happens tells old (turn call answer) new = Turn (IsTrue tells) old call answer new
Happens tells old stop new = (L : Log) × BetweenCalls old L × Reloads L new
Happens tells old (stop_inside entries) new = (L : Log) × InsideCall old entries L × WellMade L × Reloads L new

abbrev pub History : Bool → Standing → List Event → Standing → Type 0
History tells old [] new = new ≡ old
History tells old (event ∷ events) new = (mid : Standing) × Happens tells old event mid × History tells mid events new

-- what a registrar stands for once it is loaded
pub record IsLoaded (S : Standing) : Type 0 where
  pub sound : IsSound S
  pub next : S.next ≡ reserved_of S.log
  pub pending : S.pending ≡ None

-- ---- what holds of them

-- every log is well made, with the pending record and without
abbrev pub LogsAreWellMade : Type 0
LogsAreWellMade = (tells : Bool) (events : List Event) (old new : Standing) → IsLoaded old → History tells old events new → IsSound new

-- logs only grow
abbrev pub LogsOnlyGrow : Type 0
LogsOnlyGrow = (tells : Bool) (events : List Event) (old new : Standing) → History tells old events new → (more : Log) × (new.log ≡ old.log ++ more)

-- what was answered Admitted stands at its index in every later log
abbrev pub AdmittedStays : Type 0
AdmittedStays =
    (tells : Bool) (events : List Event) (old new later : Standing) (s : Said) (m i : ℕ) (receipt : List ℕ)
    → Turn (IsTrue tells) old (register_call s m) (registered (Admitted i receipt)) new → History tells new events later
    → (rule : ℕ) × (ruling_of old s m ≡ Some (goes rule)) × (slice_get (leaves_of later.log) i ≡ Some (new_entry old s m rule))

-- a body that is a Batch at this index
abbrev pub BatchAt : ℕ → List ℕ → Type 0
BatchAt index body = (entries : List (List ℕ)) × IsBatch entries index body

-- a Batch of the log, or the pending one, at this index
abbrev pub HasBatch : Standing → ℕ → List ℕ → Type 0
HasBatch S index body = (Contains S.log body ⊎ (S.pending ≡ Some body)) × BatchAt index body

-- of two standings of a history, the same or one before the other, no index stands in two different Batches
abbrev pub NoIndexTwice : Type 0
NoIndexTwice =
    (tells : Bool) (before between : List Event) (S A B : Standing) (index : ℕ) (a b : List ℕ)
    → IsLoaded S → History tells S before A → History tells A between B → HasBatch A index a → HasBatch B index b → a ≡ b
