-- A record more: what fits, and what a crash leaves.
use Rattle.std.proofs.Common.{◌≡◌, ℕ, ◌+◌, ◌≤◌, inl, inr, Result, Ok, Err, OnErr, List, [], ◌∷◌, ◌++◌, length, Option, None, Some, refl, sym, ap, ◌∙◌, subst}
use Rattle.std.specs.Prelude.{IfSome}
use Rattle.std.proofs.lemmas.List.{length-append}
use Rattle.scitt_disk.specs.Images.{Held, CrashLeaves}
use Rattle.scitt_disk.specs.Laws.{StretchesJoin}
use Rattle.scitt_journal.specs.Layout.{Recovers, OneOf}
use Rattle.hss_keys.specs.Signers.{SignerKey}
use Rattle.log_replay.specs.declared.state.State.{State}
use Rattle.log_replay.specs.Records.{Log, Record, record_of, reserved_of, used_of}
use Rattle.log_replay.specs.WellMade.{WellMade}
use Rattle.log_replay.specs.StateSeen.{kept_of, StandsFor}
use Rattle.log_replay.specs.Steps.{Fits as RecordFits}
use Rattle.log_replay.specs.Laws.{FailingIsFailing, OneMore, OneLess}
use Rattle.log_replay.specs.Growth.{HeaderStays}
use Rattle.registrar.specs.Turns.{Standing, needed_of, log_with, ready_log, IsBatch, Stops}
use Rattle.registrar.specs.Fits.{Fits, IsHeaded, Registered, Inside, Either}
use Rattle.registrar.proofs.Stretches.{weaker, joined}

-- a record that is well made behind one log of a state is so behind each
pub fits_all : FailingIsFailing → OneMore → OneLess → (kept : State) (L R : Log) (body : List ℕ) (r : Record) →
    StandsFor kept L → WellMade (L ++ body ∷ []) → record_of body ≡ Some r → StandsFor kept R → RecordFits R r
fits_all failing more less kept L R body r here well reads there =
    (body, reads, more R body there.sound (sym (failing (kept_of kept) R body there) ∙ failing (kept_of kept) L body here ∙ less L body well))

headed_more : HeaderStays → (signer : SignerKey) (R xs : Log) → IsHeaded signer R → IsHeaded signer (R ++ xs)
headed_more stays signer R xs h = record { header = h.header; first = stays R xs h.header h.first; key = h.key; levels = h.levels }

longer : (xs ys : Log) (body : List ℕ) → length xs ≡ length ys → length (xs ++ body ∷ []) ≡ length (ys ++ body ∷ [])
longer xs ys body e = length-append xs (body ∷ []) ∙ ap (λ n. n + 1) e ∙ sym (length-append ys (body ∷ []))

pub fits_more : (Tells : Type 0) (old new : State) (signer : SignerKey) (records written : Log) (S T : Standing) (body : List ℕ) →
    HeaderStays → Fits Tells old signer records S → WellMade (S.log ++ body ∷ []) → StandsFor new (S.log ++ body ∷ []) →
    written ≡ records ++ body ∷ [] → T.log ≡ S.log ++ body ∷ [] → T.next ≤ reserved_of (S.log ++ body ∷ []) → used_of (S.log ++ body ∷ []) ≤ T.next → T.pending ≡ None →
    Fits Tells new signer written T
fits_more Tells old new signer records written S T body stays fits well stood is log next used none =
    record {
      state = subst (λ (L : Log). StandsFor new L) (sym log) stood;
      headed = subst (λ (L : Log). IsHeaded signer L) (sym log) (headed_more stays signer S.log (body ∷ []) fits.headed);
      sound = record { log = subst WellMade (sym log) well; pending = subst (λ (o : Option (List ℕ)). IfSome o (λ b. WellMade (T.log ++ b ∷ []))) (sym none) tt };
      ahead = subst (λ (L : Log). T.next ≤ reserved_of L) (sym log) next;
      above = subst (λ (L : Log). used_of L ≤ T.next) (sym log) used;
      counted = ap length is ∙ longer records S.log body fits.counted ∙ ap length (sym log);
      told = λ tells. is ∙ ap (λ (L : Log). L ++ body ∷ []) (fits.told tells) ∙ sym log;
    }

pub reserve_images : {D : Type 0} (held : D → Held) (view now : Registered D) (new : Held) (records : Log) (needed : Option (List ℕ)) (body : List ℕ) →
    view ≡ now → records ≡ view.standing.log → needed ≡ needed_of now.standing → needed ≡ Some body → CrashLeaves (OneOf records body) (held view.disk) new →
    CrashLeaves (Either now.standing.log (ready_log now.standing)) (held now.disk) new
reserve_images {D = D} held view now new records needed body e told is some leaves =
    let here = subst (λ (L : Log). CrashLeaves (OneOf L body) (held view.disk) new) told leaves in
    let moved = subst (λ (v : Registered D). CrashLeaves (OneOf v.standing.log body) (held v.disk) new) e here in
    let ready : now.standing.log ++ body ∷ [] ≡ ready_log now.standing = ap (λ o. log_with o now.standing.log) (sym some ∙ is) in
    weaker (OneOf now.standing.log body) (Either now.standing.log (ready_log now.standing)) _ _ (λ image one.
    elim one [ inl r ↦ inl r | inr r ↦ inr (subst (λ (M : Log). Recovers image M) ready r) ]) moved

pub batch_images : {D : Type 0} (held : D → Held) (view now : Registered D) (new : Held) (records : Log) (body : List ℕ) →
    view ≡ now → records ≡ view.standing.log → CrashLeaves (OneOf records body) (held view.disk) new → CrashLeaves (OneOf now.standing.log body) (held now.disk) new
batch_images {D = D} held view now new records body e told leaves =
    let here = subst (λ (L : Log). CrashLeaves (OneOf L body) (held view.disk) new) told leaves in
    subst (λ (v : Registered D). CrashLeaves (OneOf v.standing.log body) (held v.disk) new) e here

inside_reserve : (S : Standing) (entries : List (List ℕ)) (image : List ℕ) → WellMade S.log → WellMade (ready_log S) → Either S.log (ready_log S) image → Inside S entries image
inside_reserve S entries image base well (inl r) = (S.log, inl (inl refl), base, r)
inside_reserve S entries image base well (inr r) = (ready_log S, inr (inl refl), well, r)

inside_batch : (S : Standing) (entries : List (List ℕ)) (batch image : List ℕ) → WellMade (ready_log S) → WellMade (ready_log S ++ batch ∷ []) → IsBatch entries S.next batch → OneOf (ready_log S) batch image → Inside S entries image
inside_batch S entries batch image well fits is (inl r) = (ready_log S, inr (inl refl), well, r)
inside_batch S entries batch image well fits is (inr r) = (ready_log S ++ batch ∷ [], inr (inr (batch, is, refl)), fits, r)

pub put_images : StretchesJoin → (S mid : Standing) (first middle last : Held) (entries : List (List ℕ)) (batch : List ℕ) → WellMade S.log → WellMade (ready_log S) → WellMade (ready_log S ++ batch ∷ []) → mid.log ≡ ready_log S → IsBatch entries S.next batch →
    CrashLeaves (Either S.log (ready_log S)) first middle → CrashLeaves (OneOf mid.log batch) middle last → CrashLeaves (Inside S entries) first last
put_images join S mid first middle last entries batch base well fits log is one two =
    joined join (Inside S entries) first middle last
    (weaker (Either S.log (ready_log S)) (Inside S entries) first middle (λ image. inside_reserve S entries image base well) one)
    (weaker (OneOf (ready_log S) batch) (Inside S entries) middle last (λ image. inside_batch S entries batch image well fits is) (subst (λ (R : Log). CrashLeaves (OneOf R batch) middle last) log two))

pub stopped_images : (S : Standing) (old new : Held) (entries : List (List ℕ)) → WellMade S.log → WellMade (ready_log S) → CrashLeaves (Either S.log (ready_log S)) old new → CrashLeaves (Inside S entries) old new
stopped_images S old new entries base well was = weaker (Either S.log (ready_log S)) (Inside S entries) old new (λ image. inside_reserve S entries image base well) was

left_batch : (o : Option (List ℕ)) (batch : List ℕ) (entries : List (List ℕ)) (index : ℕ) → IsBatch entries index batch → IfSome o (λ left. left ≡ batch) → IfSome o (IsBatch entries index)
left_batch None batch entries index is left = tt
left_batch (Some body) batch entries index is left = subst (λ (b : List ℕ). IsBatch entries index b) (sym left) is

-- a Batch that wasn't written leaves the log that was ready, one index more, and the Batch pending or nothing
pub batch_stops : (S mid T : Standing) (batch : List ℕ) → mid ≡ record S { log = ready_log S } → T ≡ record { log = mid.log; next = mid.next + 1; pending = T.pending } →
    IfSome T.pending (λ left. left ≡ batch) → (entries : List (List ℕ)) → IsBatch entries S.next batch → Stops S entries T
batch_stops S mid T batch ready stopped left entries is =
    inr (record {
      log = ap (λ (v : Standing). v.log) stopped ∙ ap (λ (v : Standing). v.log) ready;
      next = ap (λ (v : Standing). v.next) stopped ∙ ap (λ (v : Standing). v.next + 1) ready;
      pending = left_batch T.pending batch entries S.next is left;
    })

pub on_err_of : {T E P Q Z : Type 0} (r : Result T E) → OnErr r P → OnErr r Q → (P → Q → Z) → OnErr r Z
on_err_of (Ok x) p q f = tt
on_err_of (Err x) p q f = f p q
