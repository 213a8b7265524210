-- One call of the service: one turn on the registrar behind it, as the caller's seat tells it.
use Rattle.std.specs.Prelude.{◌≡◌, ℕ, List, [], ◌∷◌, Option, None, Some, Bool}
use mathlib.Core.List.{IsPrefix}
use Rattle.turn_lock.specs.Calls.{Caller}
use Rattle.registrar.specs.Turns.{Call, Answer, Turn, IsSound}
use Rattle.registrar.specs.Fits.{Registered}

-- where the log names a key, the checked value names that key
abbrev pub NamesKey : Option (List ℕ) → Option (List ℕ × Bool) → Type 0
NamesKey None pair = Unit {0}
NamesKey (Some key) None = ⊥
NamesKey (Some key) (Some pair) = pair.0 ≡ key

-- the disk's count of faults before and after a call that asks nothing of the disk
abbrev pub Stays : ℕ → ℕ → Type 0
Stays before now = now ≡ before

-- a call that only looks: the registrar stays, and its log is well made
abbrev pub Looks : {D : Type 0} → Registered D → Registered D → Type 0
Looks value left = (left ≡ value) × IsSound value.standing

module _ {D : Type 0} (fault_count : D → ℕ) where
  -- the marks of a registrar: the next signing index and the disk's count of faults
  abbrev pub marks_of : Registered D → List ℕ
  marks_of r = r.standing.next ∷ fault_count r.disk ∷ []

  -- one turn of a registrar, which leaves a log that begins with the one found, and this of the count of faults
  pub record Works (Tells : Type 0) (call : Call) (answer : Answer) (Faults : ℕ → ℕ → Type 0) (value left : Registered D) : Type 0 where
    pub turn : Turn Tells value.standing call answer left.standing
    pub grows : IsPrefix value.standing.log left.standing.log
    pub faults : Faults (fault_count value.disk) (fault_count left.disk)

  -- the registrar was found and left so: what the seat had seen begins the log that was found, and the seat tells both logs
  -- and the marks of both
  pub record Served (Does : Registered D → Registered D → Type 0) (before after : Caller) : Type 0 where
    pub value : Registered D
    pub left : Registered D
    pub does : Does value left
    pub lock : after.lock ≡ before.lock
    pub weight : after.weight ≡ before.weight
    pub grown : IsPrefix before.seen value.standing.log
    pub list_found : after.found ≡ value.standing.log
    pub list_left : after.seen ≡ left.standing.log
    pub marks_found : after.marks_found ≡ marks_of value
    pub marks_left : after.marks_left ≡ marks_of left
