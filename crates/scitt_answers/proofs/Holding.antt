-- The turns of a registrar on one thread.
use Rattle.std.proofs.Common.{◌≡◌, ℕ, Bool, IsTrue, refl, sym, subst}
use mathlib.Core.List.{IsPrefix}
use base.Growing.{prefix_refl}
use Rattle.registrar.specs.Turns.{Standing, Call, Turn, IsSound}
use Rattle.registrar.specs.Turns.{Answer as Reply}
use Rattle.registrar.specs.Fits.{Registered}
use Rattle.scitt_answers.specs.Marks.{asks, looks, mark_of, entries_at, FaultsIn, TurnedTo}
use Rattle.scitt_answers.proofs.Sizes.{same_begins}

-- a log that stays begins with itself
pub standing_grows : (old new : Standing) → new ≡ old → IsPrefix old.log new.log
standing_grows old new e = subst (λ (S : Standing). IsPrefix old.log S.log) (sym e) (prefix_refl old.log)

-- a call that left the log behind the one it found, with the disk's count as its reply says
pub call_turned : {D : Type 0} {tells : Bool} {size : ℕ} (fault_count : D → ℕ) (old new : Registered D) (call : Call) (reply : Reply)
    → Turn (IsTrue tells) old.standing call reply new.standing → IsPrefix old.standing.log new.standing.log → FaultsIn (asks call reply) (fault_count old.disk) (fault_count new.disk)
    → size ≡ entries_at (mark_of fault_count new)
    → TurnedTo tells (λ m. m ≡ mark_of fault_count old) (λ found left. left ≡ mark_of fault_count new) (asks call reply) size
call_turned fault_count old new call reply turn grows faults size = record {
  turned = record {
    found = mark_of fault_count old;
    left = mark_of fault_count new;
    begins_at = refl;
    last_is = refl;
    is_step = record { done = turn; grows = grows; faults = faults };
  };
  leaves = size;
}

-- a look at the size
pub look_turned : {D : Type 0} {tells : Bool} {size : ℕ} (fault_count : D → ℕ) (r : Registered D) → IsSound r.standing → size ≡ entries_at (mark_of fault_count r)
    → TurnedTo tells (λ m. m ≡ mark_of fault_count r) (λ found left. left ≡ mark_of fault_count r) looks size
look_turned fault_count r sound size = record {
  turned = record {
    found = mark_of fault_count r;
    left = mark_of fault_count r;
    begins_at = refl;
    last_is = refl;
    is_step = record { done = (refl, sound); grows = same_begins (mark_of fault_count r) (mark_of fault_count r) refl; faults = refl };
  };
  leaves = size;
}
