-- What the calls of a key file leave, from what its ledger's calls leave.
use Rattle.std.proofs.Common.{◌≡◌, ℕ, ◌+◌, ◌<◌, ◌≤◌, inl, inr, min, List, [], ◌∷◌, ◌++◌, length, Option, None, Some, refl, sym, ap, ◌∙◌, subst, arith}
use Rattle.std.specs.Prelude.{true, IfSome}
use Rattle.std.proofs.lemmas.Bool.{and_from, and_parts, lt-ltb, ltb-true, le-leb, cases_lt}
use Rattle.std.proofs.lemmas.List.{take-append-le, take_all, get_or_at, get_or_append_left, length_push}
use Rattle.std.proofs.Common.{take, get_or}
use Rattle.scitt_disk.specs.Images.{Held, ImageNow, CrashLeaves}
use Rattle.scitt_disk.specs.Laws.{StateGoesOn, EpochHasAll, StretchesJoin}
use Rattle.scitt_disk.specs.Leaves.{leaves_weaker, leaves_still, leaves_then}
use Rattle.scitt_journal.specs.Layout.{OneOf}
use Rattle.scitt_journal.specs.Keeping.{Between}
use Rattle.hss_keys.specs.Levels.{capacity}
use Rattle.key_store.specs.declared.records.KeyHead.{KeyHead}
use Rattle.key_store.specs.Records.{head_of, upto_of, IsHead}
use Rattle.key_store.specs.Keys.{reserved_of, key_of, holds_after, fits_behind, fits_at, IsKeyFile, KeyStanding, IsSound, IsKept, IsReservation, LeftBy, LeavesMade, LeavesKey, HoldsAbove}
use Rattle.key_store.proofs.ListLemmas.{reserved_more}

pub made_leaves : (head : KeyHead) (body : List ℕ) (old new : Held) → head_of body ≡ Some head → CrashLeaves (OneOf [] body) old new → CrashLeaves (LeavesMade head) old new
made_leaves head body old new reads leaves =
    leaves_weaker (OneOf [] body) (LeavesMade head) old new (λ image one. elim one [ inl none ↦ inl none | inr with' ↦ inr (body, reads, with') ]) leaves

-- one record more behind those of a key file
fits_is : (records : List (List ℕ)) (head : KeyHead) (body : List ℕ) → key_of records ≡ Some head → fits_behind records body ≡ holds_after (Some head) (reserved_of records) (upto_of body)
fits_is [] head body key = cc
fits_is (first ∷ rest) head body key = ap (λ o. holds_after o (reserved_of (first ∷ rest)) (upto_of body)) key

pub key_more : (records : List (List ℕ)) (head : KeyHead) (body : List ℕ) → key_of records ≡ Some head → key_of (records ++ body ∷ []) ≡ Some head
key_more [] head body key = cc
key_more (first ∷ rest) head body key = key

holds_upto : (head : KeyHead) (last upto : ℕ) (o : Option ℕ) → o ≡ Some upto → last < upto → upto ≤ last + head.block → upto ≤ capacity head.levels → holds_after (Some head) last o ≡ true
holds_upto head last upto o e above near most =
    ap (holds_after (Some head) last) e ∙ and_from _ _ (lt-ltb last upto above) (and_from _ _ (le-leb upto (last + head.block) near) (le-leb upto (capacity head.levels) most))

-- the reservation fits
pub reservation_fits : (head : KeyHead) (S : KeyStanding) (body : List ℕ) → IsHead head → key_of S.records ≡ Some head → IsReservation head S body → fits_behind S.records body ≡ true
reservation_fits head S body limits key is =
    fits_is S.records head body key ∙ holds_upto head (reserved_of S.records) (min (S.next + head.block) (capacity head.levels)) (upto_of body) is.2 (omega (arith, is.0, is.1, limits.some)) (omega (arith, is.0)) (omega arith)

fits_before : (records : List (List ℕ)) (body : List ℕ) (k : ℕ) → k < length records → fits_at (records ++ body ∷ []) k ≡ fits_at records k
fits_before records body k below =
    ap (λ front. fits_behind front (get_or (records ++ body ∷ []) k [])) (take-append-le k records (body ∷ []) (omega arith)) ∙ ap (fits_behind (take k records)) (get_or_append_left records (body ∷ []) [] k below)

fits_last : (records : List (List ℕ)) (body : List ℕ) → fits_at (records ++ body ∷ []) (length records) ≡ fits_behind records body
fits_last records body =
    ap (λ front. fits_behind front (get_or (records ++ body ∷ []) (length records) [])) (take-append-le (length records) records (body ∷ []) (omega arith) ∙ take_all (length records) records (omega arith)) ∙ ap (fits_behind records) (get_or_at records body [] [] (length records) refl)

fits_each : (records : List (List ℕ)) (body : List ℕ) (k : ℕ) → IsKeyFile records → fits_behind records body ≡ true → k < length records + 1 → fits_at (records ++ body ∷ []) k ≡ true
fits_each records body k file fits below =
    elim (cases_lt k (length records)) [
      | inl before ↦ fits_before records body k before ∙ file.each k before
      | inr last ↦ let e : k ≡ length records = omega arith in rw e (fits_last records body ∙ fits)
    ]

pub file_more : (records : List (List ℕ)) (body : List ℕ) → IsKeyFile records → fits_behind records body ≡ true → IsKeyFile (records ++ body ∷ [])
file_more records body file fits =
    record {
      some = omega (arith, length_push records body);
      each = λ k below. fits_each records body k file fits (omega (arith, below, length_push records body));
    }

pub sound_more : (head : KeyHead) (S : KeyStanding) (body : List ℕ) → IsHead head → IsSound head S → IsReservation head S body → IsSound head (record { records = S.records ++ body ∷ []; pending = None; next = S.next })
sound_more head S body limits was is =
    let upto : ℕ = min (S.next + head.block) (capacity head.levels) in
    record {
      key = key_more S.records head body was.key;
      file = file_more S.records body was.file (reservation_fits head S body limits was.key is);
      pending = tt;
      next = omega (arith, reserved_more S.records body upto is.2, is.1);
    }

pub kept_more : (Tells : Type 0) (head : KeyHead) (S : KeyStanding) (reserved upto : ℕ) (records : List (List ℕ)) (pending : Option (List ℕ)) (body : List ℕ) → IsKept Tells head S reserved → S.next ≡ reserved → S.next < capacity head.levels → upto ≡ min (S.next + head.block) (capacity head.levels) → upto_of body ≡ Some upto → records ≡ S.records ++ body ∷ [] → pending ≡ None → IsKept Tells head (record { records = records; pending = pending; next = S.next }) upto
kept_more Tells head S reserved upto records pending body was spent left is reads more settled =
    let limits = was.limits in
    let reservation : Tells → IsReservation head S body = λ tells. (spent ∙ was.reserved_is tells, left, reads ∙ ap Some is) in
    rw (more, settled) (record {
      limits = limits;
      within = omega (arith, was.limits.some);
      below = omega arith;
      few = omega (arith, was.few, length_push S.records body, was.limits.some);
      reserved_is = λ tells. sym (reserved_more S.records body upto reads);
      sound = λ tells. sound_more head S body limits (was.sound tells) (reservation tells);
    })

-- what is left at each exit
pub still_leaves : (head : KeyHead) (S : KeyStanding) (old new : Held) → StateGoesOn → EpochHasAll → new ≡ old → S.pending ≡ None → ((image : List ℕ) → ImageNow old image → Between S.records S.pending image) → CrashLeaves (LeavesKey head S) old new
still_leaves head S old new goes epoch same settled images =
    leaves_still goes epoch (LeavesKey head S) old new same (λ image now. (S.records, inl refl, subst (λ p. Between S.records p image) settled (images image now)))

pub reserve_leaves : (head : KeyHead) (S : KeyStanding) (body : List ℕ) (old new : Held) → IsReservation head S body → CrashLeaves (OneOf S.records body) old new → CrashLeaves (LeavesKey head S) old new
reserve_leaves head S body old new is leaves =
    leaves_weaker (OneOf S.records body) (LeavesKey head S) old new (λ image one. elim one [
      | inl without ↦ (S.records, inl refl, without)
      | inr with' ↦ (S.records ++ body ∷ [], inr (inr (body, is, refl)), with')
    ]) leaves

between_left : (head : KeyHead) (S : KeyStanding) (pending : Option (List ℕ)) (image : List ℕ) → S.pending ≡ pending → Between S.records pending image → LeavesKey head S image
between_left head S None image e without = (S.records, inl refl, without)
between_left head S (Some body) image e (inl without) = (S.records, inl refl, without)
between_left head S (Some body) image e (inr with') = (S.records ++ body ∷ [], inr (inl (body, e, refl)), with')

pub settle_leaves : (head : KeyHead) (S : KeyStanding) (old new : Held) → CrashLeaves (Between S.records S.pending) old new → CrashLeaves (LeavesKey head S) old new
settle_leaves head S old new leaves =
    leaves_weaker (Between S.records S.pending) (LeavesKey head S) old new (λ image between. between_left head S S.pending image refl between) leaves

-- of a file that was settled first
settled_left : (head : KeyHead) (S T : KeyStanding) (image : List ℕ) → T ≡ record S { pending = None } → LeavesKey head T image → LeavesKey head S image
settled_left head S T image e (L, inl same, is) = (L, inl (same ∙ ap (λ (t : KeyStanding). t.records) e), is)
settled_left head S T image e (L, inr (inl (body, pends, more)), is) =
    let none : None ≡ Some body = sym (ap (λ (t : KeyStanding). t.pending) e) ∙ pends in cc
settled_left head S T image e (L, inr (inr (body, reserves, more)), is) =
    let back : IsReservation head S body = subst (λ (t : KeyStanding). IsReservation head t body) e reserves in
    (L, inr (inr (body, back, more ∙ ap (λ (t : KeyStanding). t.records ++ body ∷ []) e)), is)

pub settled_leaves : (head now : KeyHead) (S T : KeyStanding) (first middle last : Held) → StretchesJoin → now ≡ head → T ≡ record S { pending = None } → CrashLeaves (LeavesKey head S) first middle → CrashLeaves (LeavesKey now T) middle last → CrashLeaves (LeavesKey head S) first last
settled_leaves head now S T first middle last joined same e one two =
    let later : CrashLeaves (LeavesKey head T) middle last = subst (λ h. CrashLeaves (LeavesKey h T) middle last) same two in
    leaves_then joined (LeavesKey head S) first middle last one (leaves_weaker (LeavesKey head T) (LeavesKey head S) middle last (λ image left. settled_left head S T image e left) later)

-- the same as `reserve_leaves`, where the list and the first state are known by equations
pub written_leaves : (head : KeyHead) (S : KeyStanding) (body : List ℕ) (records : List (List ℕ)) (first old new : Held) → records ≡ S.records → old ≡ first → IsReservation head S body → CrashLeaves (OneOf records body) old new → CrashLeaves (LeavesKey head S) first new
written_leaves head S body records first old new same begins is leaves =
    reserve_leaves head S body first new is (subst (λ f. CrashLeaves (OneOf S.records body) f new) begins (subst (λ l. CrashLeaves (OneOf l body) old new) same leaves))

-- every list that is left reserves at least what stands below the next index
above_last : (head : KeyHead) (records : List (List ℕ)) (body : List ℕ) (last : ℕ) (o : Option ℕ) → upto_of body ≡ o → holds_after (Some head) last o ≡ true → last < reserved_of (records ++ body ∷ [])
above_last head records body last None reads holds = cc
above_last head records body last (Some upto) reads holds =
    omega (arith, reserved_more records body upto reads, ltb-true last upto (and_parts _ _ holds).0)

fits_reserves : (head : KeyHead) (records : List (List ℕ)) (body : List ℕ) → key_of records ≡ Some head → fits_behind records body ≡ true → reserved_of records < reserved_of (records ++ body ∷ [])
fits_reserves head records body key fits =
    above_last head records body (reserved_of records) (upto_of body) refl (sym (fits_is records head body key) ∙ fits)

pub pending_fits : (records : List (List ℕ)) (pending : Option (List ℕ)) (body : List ℕ) → pending ≡ Some body → IfSome pending (λ b. fits_behind records b ≡ true) → fits_behind records body ≡ true
pending_fits records pending body e fits =
    let P : Option (List ℕ) → Type 0 = λ p. IfSome p (λ b. fits_behind records b ≡ true) in subst P e fits

pub left_reserves : (head : KeyHead) (S : KeyStanding) (L : List (List ℕ)) → IsHead head → IsSound head S → LeftBy head S L → S.next ≤ reserved_of L
left_reserves head S L limits sound (inl same) = omega (arith, ap reserved_of same, sound.next)
left_reserves head S L limits sound (inr (inl (body, pends, more))) =
    omega (arith, ap reserved_of more, sound.next, fits_reserves head S.records body sound.key (pending_fits S.records S.pending body pends sound.pending))
left_reserves head S L limits sound (inr (inr (body, is, more))) =
    omega (arith, ap reserved_of more, reserved_more S.records body (min (S.next + head.block) (capacity head.levels)) is.2, is.1, limits.some)

pub above_leaves : (head : KeyHead) (S : KeyStanding) (index : ℕ) (old new : Held) → IsHead head → IsSound head S → index < S.next → CrashLeaves (LeavesKey head S) old new → CrashLeaves (HoldsAbove index) old new
above_leaves head S index old new limits sound below leaves =
    leaves_weaker (LeavesKey head S) (HoldsAbove index) old new (λ image left. (left.0, left.2, omega (arith, left_reserves head S left.0 limits sound left.1))) leaves

pub sure_above : (records : List (List ℕ)) (pending : Option (List ℕ)) (index : ℕ) (image : List ℕ) → pending ≡ None → index < reserved_of records → Between records pending image → HoldsAbove index image
sure_above records pending index image settled below between =
    (records, subst (λ p. Between records p image) settled between, below)
