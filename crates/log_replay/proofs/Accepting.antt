-- A record that is accepted: the log with it is well made.
use Rattle.std.proofs.Common.{◌≡◌, ℕ, List, [], ◌∷◌, ◌++◌, Option, None, Some, refl, sym, ap, ◌∙◌, subst}
use mathlib.Core.Logic.{∥∥₁_map}
use Rattle.std.proofs.lemmas.Grind.{not_there}
use Rattle.log_replay.specs.declared.words.Failing.{Failing}
use Rattle.log_replay.specs.Records.{Log, Record, record_of}
use Rattle.log_replay.specs.Steps.{Fits}
use Rattle.log_replay.specs.WellMade.{failing_of}
use Rattle.log_replay.specs.Kept.{Kept, StateOf, Stands}
use Rattle.log_replay.specs.KeptRows.{failing_kept, with_record}
use Rattle.log_replay.specs.Laws.{FailingIsFailing, RecordIsAdded, OneLess}

abbrev pub FitsAll : Kept → Record → Type 0
FitsAll K r = (R : Log) → StateOf K R → Fits R r

fits_one : FailingIsFailing → OneLess → (K : Kept) (r : Record) → FitsAll K r → Stands K → failing_kept K (Some r) ≡ None
fits_one same less K r fits (R, was) =
    let fit = fits R was in
    ap (failing_kept K) (sym fit.1) ∙ same K R fit.0 was ∙ less R fit.0 fit.2

by_value : (K : Kept) (r : Record) (o : Option Failing) → failing_kept K (Some r) ≡ o → ((failing_kept K (Some r) ≡ None → ⊥) → ⊥) → o ≡ None
by_value K r None e never = refl
by_value K r (Some f) e never = absurd (never (λ none. let bad = sym e ∙ none in cc))

-- no rule fails on it
pub fits_kept : FailingIsFailing → OneLess → (K : Kept) (r : Record) → FitsAll K r → ∥ Stands K ∥₁ → failing_kept K (Some r) ≡ None
fits_kept same less K r fits made =
    by_value K r (failing_kept K (Some r)) refl (λ never. not_there made (λ stands. never (fits_one same less K r fits stands)))

-- the state of each log with it
pub added_as : FailingIsFailing → RecordIsAdded → (K : Kept) (R : Log) (body : List ℕ) (r : Record) → StateOf K R → record_of body ≡ Some r → failing_kept K (Some r) ≡ None
    → StateOf (with_record K (Some r)) (R ++ body ∷ [])
added_as same added K R body r was reads none =
    let fails : failing_of R body ≡ None = sym (same K R body was) ∙ ap (failing_kept K) reads ∙ none in
    subst (λ (o : Option Record). StateOf (with_record K o) (R ++ body ∷ [])) reads (added K R body was fails)

more_fits : FailingIsFailing → RecordIsAdded → OneLess → (K : Kept) (r : Record) → FitsAll K r → Stands K → Stands (with_record K (Some r))
more_fits same added less K r fits (R, was) =
    let fit = fits R was in
    (R ++ fit.0 ∷ [], added_as same added K R fit.0 r was fit.1 (fits_one same less K r fits (R, was)))

pub fits_made : FailingIsFailing → RecordIsAdded → OneLess → (K : Kept) (r : Record) → FitsAll K r → ∥ Stands K ∥₁ → ∥ Stands (with_record K (Some r)) ∥₁
fits_made same added less K r fits made = ∥∥₁_map made (more_fits same added less K r fits)
