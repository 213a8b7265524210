-- Prefixes of a well made log, and one record more.
use Rattle.std.proofs.Common.{◌≡◌, List, [], ◌∷◌, ◌++◌, None, ℕ, sym, subst, append_assoc, append-nil, take, drop}
use Rattle.std.proofs.lemmas.List.{take-append-drop}
use Rattle.log_replay.specs.Records.{Log}
use Rattle.log_replay.specs.WellMade.{failing_of, WellMade, WellMadeAfter}

well_more : (P R : Log) (body : List ℕ) → WellMadeAfter P R → failing_of (P ++ R) body ≡ None → WellMadeAfter P (R ++ body ∷ [])
well_more P [] body w e = (subst (λ (X : Log). failing_of X body ≡ None) (append-nil P) e, tt)
well_more P (b ∷ R) body w e = (w.0, well_more (P ++ b ∷ []) R body w.1 (subst (λ (X : Log). failing_of X body ≡ None) (sym (append_assoc P (b ∷ []) R)) e))

pub well : (R : Log) (body : List ℕ) → WellMade R → failing_of R body ≡ None → WellMade (R ++ body ∷ [])
well R body w e = well_more [] R body w e

front_after : (P R S : Log) → WellMadeAfter P (R ++ S) → WellMadeAfter P R
front_after P [] S w = tt
front_after P (b ∷ R) S w = (w.0, front_after (P ++ b ∷ []) R S w.1)

pub front : (R S : Log) → WellMade (R ++ S) → WellMade R
front R S w = front_after [] R S w

last_after : (P R : Log) (body : List ℕ) → WellMadeAfter P (R ++ body ∷ []) → failing_of (P ++ R) body ≡ None
last_after P [] body w = subst (λ (X : Log). failing_of X body ≡ None) (sym (append-nil P)) w.0
last_after P (b ∷ R) body w = subst (λ (X : Log). failing_of X body ≡ None) (append_assoc P (b ∷ []) R) (last_after (P ++ b ∷ []) R body w.1)

pub last_failing : (R : Log) (body : List ℕ) → WellMade (R ++ body ∷ []) → failing_of R body ≡ None
last_failing R body w = last_after [] R body w

pub fronts : (R : Log) (n : ℕ) → WellMade R → WellMade (take n R)
fronts R n w = front (take n R) (drop n R) (subst WellMade (sym (take-append-drop n R)) w)
