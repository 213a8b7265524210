-- What a journal keeps of a ledger's records, at rest and in need of repair.
use Rattle.std.proofs.Common.{◌≡◌, ℕ, List, [], Option, None, Some, true, false, Result, Ok, Err, sym, ap, subst}
use Rattle.std.specs.Prelude.{IfOk, slice_index_or}
use Rattle.scitt_disk.specs.Images.{Held, ImageNow, CrashLeaves}
use Rattle.scitt_disk.specs.Laws.{EpochHasAll, StateGoesOn}
use Rattle.scitt_disk.specs.Leaves.{leaves_still}
use Rattle.scitt_journal.specs.Layout.{OneOf}
use Rattle.scitt_journal.specs.Laws.{RestIsRecovered, DoubtIsOneOf}
use Rattle.scitt_journal.specs.Log.{Log}
use Rattle.scitt_journal.specs.State.{AtRest, InDoubt}
use Rattle.scitt_journal.specs.Keeping.{Kept, Keeps, Holds, Between}

pub between_now : {D : Type 0} (held : D → Held) (journal : Log D) (records : List (List ℕ)) (pending : Option (List ℕ)) (image : List ℕ) → RestIsRecovered held → DoubtIsOneOf held → Keeps held journal records pending → ImageNow (held journal.disk) image → Between records pending image
between_now held journal records None image rest doubt kept now = rest journal records image kept now
between_now held journal records (Some body) image rest doubt kept now = doubt journal records body image kept now

-- the same of a ledger as it is passed
pub between_outside : {D : Type 0} (held : D → Held) (journal : Log D) (view ledger : Kept D) (image : List ℕ) → view ≡ ledger → view.disk ≡ journal.disk → RestIsRecovered held → DoubtIsOneOf held → Keeps held journal view.records view.pending → ImageNow (held ledger.disk) image → Between ledger.records ledger.pending image
between_outside {D = D} held journal view ledger image e same rest doubt kept now =
    let P : Kept D → Type 0 = λ l. Between l.records l.pending image in
    let Q : Kept D → Type 0 = λ l. ImageNow (held l.disk) image in
    let R : D → Type 0 = λ d. ImageNow (held d) image in
    subst P e (between_now held journal view.records view.pending image rest doubt kept (subst R same (subst Q (sym e) now)))

pub settle_leaves : {D : Type 0} (Tells : Type 0) (held : D → Held) (old new : Log D) (records : List (List ℕ)) (pending : Option (List ℕ)) → StateGoesOn → EpochHasAll → RestIsRecovered held → Tells → Holds Tells held old records pending → (old.needs_repair ≡ false → new ≡ old) → ((bodies : List (List ℕ)) (body : List ℕ) → Tells → old.needs_repair ≡ true → InDoubt held old bodies body → CrashLeaves (OneOf bodies body) (held old.disk) (held new.disk)) → CrashLeaves (Between records pending) (held old.disk) (held new.disk)
settle_leaves Tells held old new records None goes epoch rest tells holds untouched any =
    leaves_still goes epoch (Between records None) (held old.disk) (held new.disk) (ap (λ j. held j.disk) (untouched holds.marked)) (λ image now. rest old records image (holds.kept tells) now)
settle_leaves Tells held old new records (Some body) goes epoch rest tells holds untouched any =
    any records body tells holds.marked (holds.kept tells)

pub settle_strays : {D : Type 0} (Tells : Type 0) (held : D → Held) (strays : D → ℕ) (old new : Log D) (records : List (List ℕ)) (pending : Option (List ℕ)) → Tells → Holds Tells held old records pending → (old.needs_repair ≡ false → new ≡ old) → ((bodies : List (List ℕ)) (body : List ℕ) → Tells → InDoubt held old bodies body → strays new.disk ≡ strays old.disk) → strays new.disk ≡ strays old.disk
settle_strays Tells held strays old new records None tells holds untouched any =
    ap (λ j. strays j.disk) (untouched holds.marked)
settle_strays Tells held strays old new records (Some body) tells holds untouched any =
    any records body tells (holds.kept tells)

pub settled_holds : {D : Type 0} (Tells : Type 0) (held : D → Held) (old new : Log D) (records : List (List ℕ)) (pending : Option (List ℕ)) → Holds Tells held old records pending → new.needs_repair ≡ false → new.count ≡ old.count → (old.needs_repair ≡ false → new ≡ old) → ((bodies : List (List ℕ)) (body : List ℕ) → Tells → old.needs_repair ≡ true → InDoubt held old bodies body → AtRest held new bodies) → Holds Tells held new records None
settled_holds Tells held old new records None holds ready count untouched repaired =
    record {
      marked = ready;
      counted = rw count holds.counted;
      kept = λ tells. subst (λ j. AtRest held j records) (sym (untouched holds.marked)) (holds.kept tells);
    }
settled_holds Tells held old new records (Some body) holds ready count untouched repaired =
    record {
      marked = ready;
      counted = rw count holds.counted;
      kept = λ tells. repaired records body tells holds.marked (holds.kept tells);
    }

-- a body that was read is that of the record, at rest and in need of repair
pub body_read : {D X E : Type 0} (held : D → Held) (Tells : Type 0) (items : X → List ℕ) (journal : Log D) (records : List (List ℕ)) (pending : Option (List ℕ)) (n : ℕ) (r : Result X E) → (Tells → Keeps held journal records pending) → IfOk r (λ x. (bodies : List (List ℕ)) → Tells → AtRest held journal bodies → items x ≡ slice_index_or bodies n []) → IfOk r (λ x. (bodies : List (List ℕ)) (body : List ℕ) → Tells → InDoubt held journal bodies body → items x ≡ slice_index_or bodies n []) → IfOk r (λ x. Tells → items x ≡ slice_index_or records n [])
body_read held Tells items journal records pending n (Err e) keeps rest doubt = tt
body_read held Tells items journal records None n (Ok x) keeps rest doubt = λ tells. rest records tells (keeps tells)
body_read held Tells items journal records (Some body) n (Ok x) keeps rest doubt = λ tells. doubt records body tells (keeps tells)

pub read_strays : {D : Type 0} (held : D → Held) (Tells : Type 0) (strays : D → ℕ) (now : ℕ) (journal : Log D) (records : List (List ℕ)) (pending : Option (List ℕ)) → Tells → (Tells → Keeps held journal records pending) → ((bodies : List (List ℕ)) → Tells → AtRest held journal bodies → now ≡ strays journal.disk) → ((bodies : List (List ℕ)) (body : List ℕ) → Tells → InDoubt held journal bodies body → now ≡ strays journal.disk) → now ≡ strays journal.disk
read_strays held Tells strays now journal records None tells keeps rest doubt = rest records tells (keeps tells)
read_strays held Tells strays now journal records (Some body) tells keeps rest doubt = doubt records body tells (keeps tells)
