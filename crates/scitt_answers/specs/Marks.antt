-- Turns on a registrar, as whoever makes them sees them.
use Rattle.std.specs.Prelude.{◌≡◌, ℕ, List, [], ◌∷◌, length, Bool, IsTrue}
use mathlib.Core.List.{IsPrefix}
use Rattle.log_replay.specs.Records.{entries_of}
use Rattle.registrar.specs.Turns.{Standing, Call, Turn, IsSound, registered, read, made, hint}
use Rattle.registrar.specs.Turns.{Answer as Reply}
use Rattle.registrar.specs.Fits.{Registered, IsFaultOf}
use Rattle.registrar.specs.Reading.{IsReadFault}

-- what a registrar stands for, with its disk's count of faults
pub record Mark : Type 0 where
  pub standing : Standing
  pub faults : ℕ

abbrev pub mark_of : {D : Type 0} → (D → ℕ) → Registered D → Mark
mark_of fault_count r = record { standing = r.standing; faults = fault_count r.disk }

abbrev pub entries_at : Mark → ℕ
entries_at m = length (entries_of m.standing.log)

-- what is done in one turn: a call, with its reply, or a look at the size alone
pub data Doing : Type 0 where
  asks : Call → Reply → Doing
  looks : Doing

-- one turn: what it found, what was done in it, and what it left
pub record Step : Type 0 where
  pub found : Mark
  pub does : Doing
  pub left : Mark

-- what a turn is, by what is done in it; what is read back is claimed where the disk tells what it holds
abbrev pub DoneIn : Type 0 → Standing → Doing → Standing → Type 0
DoneIn Tells old (asks call reply) new = Turn Tells old call reply new
DoneIn Tells old looks new = (new ≡ old) × IsSound old

-- the disk's count of faults over it: it rose where the reply is a fault, and else it stayed
abbrev pub FaultsIn : Doing → ℕ → ℕ → Type 0
FaultsIn (asks call (registered o)) before now = IsFaultOf before now o
FaultsIn (asks call (read r)) before now = IsReadFault before now r
FaultsIn (asks call (made b)) before now = now ≡ before
FaultsIn (asks call (hint k)) before now = now ≡ before
FaultsIn looks before now = now ≡ before

-- it is one turn of a registrar, whose log only grows
pub record IsStep (tells : Bool) (s : Step) : Type 0 where
  pub done : DoneIn (IsTrue tells) s.found.standing s.does s.left.standing
  pub grows : IsPrefix s.found.standing.log s.left.standing.log
  pub faults : FaultsIn s.does s.found.faults s.left.faults

-- the holder did that in one turn
pub record Turned (tells : Bool) (begins : Mark → Type 0) (last : Mark → Mark → Type 0) (does : Doing) : Type 0 where
  pub found : Mark
  pub left : Mark
  pub begins_at : begins found
  pub last_is : last found left
  pub is_step : IsStep tells (record { found = found; does = does; left = left })

-- and the log that it left has so many entries
pub record TurnedTo (tells : Bool) (begins : Mark → Type 0) (last : Mark → Mark → Type 0) (does : Doing) (size : ℕ) : Type 0 where
  pub turned : Turned tells begins last does
  pub leaves : size ≡ entries_at turned.left

-- turns one after another: the first may begin here, and each next one at what may follow the one before
abbrev pub Chain : (Mark → Type 0) → (Mark → Mark → Type 0) → List Step → Type 0
Chain begins follows [] = Unit {0}
Chain begins follows (s ∷ steps) = begins s.found × Chain (follows s.left) follows steps

-- where the turn after these may begin
abbrev pub Next : (Mark → Type 0) → (Mark → Mark → Type 0) → List Step → Mark → Type 0
Next begins follows [] m = begins m
Next begins follows (s ∷ steps) m = Next (follows s.left) follows steps m

abbrev pub AreSteps : Bool → List Step → Type 0
AreSteps tells [] = Unit {0}
AreSteps tells (s ∷ steps) = IsStep tells s × AreSteps tells steps

-- the last of the steps left a log of so many entries
abbrev pub LeavesSize : List Step → ℕ → Type 0
LeavesSize [] size = ⊥
LeavesSize (s ∷ []) size = size ≡ entries_at s.left
LeavesSize (s ∷ t ∷ steps) size = LeavesSize (t ∷ steps) size
