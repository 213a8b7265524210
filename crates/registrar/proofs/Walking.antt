-- Records that are read one after another, and the indices that a well made log has used.
use Rattle.std.proofs.Common.{◌≡◌, ℕ, ◌+◌, ◌≤◌, ◌<◌, List, [], ◌∷◌, ◌++◌, Option, None, Some, refl, sym, ap, ◌∙◌, subst, length, take, get_or, append_assoc, append-nil, arith}
use Rattle.std.specs.Prelude.{fold, max, IfSome}
use Rattle.std.specs.List.{cons_option}
use Rattle.std.proofs.lemmas.Bool.{and_parts, ltb-true}
use Rattle.std.proofs.lemmas.List.{take_more}
use Rattle.std.proofs.lemmas.List.Sums.{fold-append}
use Rattle.std.proofs.lemmas.List.Elements.{filter_map-append}
use Rattle.std.proofs.lemmas.Option.{slice_get-get_or}
use Rattle.hss_keys.specs.Signers.{SignerKey}
use Rattle.log_replay.specs.declared.state.State.{State}
use Rattle.log_replay.specs.declared.parts.Header.{Header}
use Rattle.log_replay.specs.declared.words.Failing.{Failing}
use Rattle.log_replay.specs.Records.{Log, Record, header_record, reserve_record, batch_record, record_of, records_of, header_of, header_first, reserved_of, reserved_after, used_of, used_after}
use Rattle.log_replay.specs.StateSeen.{StandsFor}
use Rattle.log_replay.specs.WellMade.{WellMade, WellMadeAfter, failing_of}
use Rattle.log_replay.specs.Laws.{OneMore}
use Rattle.log_replay.specs.Growth.{ReserveRises, IndexRises, HeaderIsFirst}
use Rattle.registrar.specs.Fits.{Fits, IsHeaded}
use Rattle.registrar.specs.Turns.{Standing}
use Rattle.registrar.specs.Opening.{IsBadAt}

-- ---- one record more is read

pub told_more : (R log : Log) (n : ℕ) (body : List ℕ) → n < length R → log ≡ take n R → body ≡ get_or R n [] → log ++ body ∷ [] ≡ take (n + 1) R
told_more R log n body below is e =
    ap (λ (L : Log). L ++ body ∷ []) is ∙ ap (λ (b : List ℕ). take n R ++ b ∷ []) e ∙ sym (take_more R n [] below)

pub bad_at : (R log : Log) (n : ℕ) (body : List ℕ) (f : Failing) → n < length R → log ≡ take n R → body ≡ get_or R n [] → WellMade log → failing_of log body ≡ Some f → IsBadAt R n f.why
bad_at R log n body f below is e well fails = (
  f,
  record {
    before = subst WellMade is well;
    body = body;
    there = slice_get-get_or R n [] below ∙ ap Some (sym e);
    failing = subst (λ (L : Log). failing_of L body ≡ Some f) is fails;
  },
  refl,
)

-- ---- the indices used are reserved

-- what holds of a log, and with each record that fails no rule, holds of each well made log that begins with it
grow : (Q : Log → Type 0) → ((P : Log) (body : List ℕ) → Q P → failing_of P body ≡ None → Q (P ++ body ∷ [])) → (P R : Log) → Q P → WellMadeAfter P R → Q (P ++ R)
grow Q step P [] q w = subst Q (sym (append-nil P)) q
grow Q step P (b ∷ R) q w = subst Q (append_assoc P (b ∷ []) R) (grow Q step (P ++ b ∷ []) R (step P b q w.0) w.1)

-- a sound log whose used indices are below the reservation
record IsKept (P : Log) : Type 0 where
  sound : WellMade P
  used : used_of P ≤ reserved_of P

-- the first record uses and reserves nothing
first_by : (o : Option Record) (h : Header) → header_first (cons_option o []) ≡ Some h → fold used_after 0 (cons_option o []) ≤ fold reserved_after 0 (cons_option o [])
first_by None h e = cc
first_by (Some (header_record g)) h e = omega arith
first_by (Some (reserve_record upto)) h e = cc
first_by (Some (batch_record b)) h e = cc

used_first : HeaderIsFirst → (body : List ℕ) → WellMade (body ∷ []) → used_of (body ∷ []) ≤ reserved_of (body ∷ [])
used_first first body well = let headed = first body [] well in first_by (record_of body) headed.0 headed.1

more_by : {A : Type 0} (f : A → Record → A) (a : A) (P : Log) (body : List ℕ) (r : Record) → record_of body ≡ Some r → fold f a (records_of (P ++ body ∷ [])) ≡ f (fold f a (records_of P)) r
more_by f a P body r e =
    ap (fold f a) (filter_map-append record_of P (body ∷ []) ∙ ap (λ o. records_of P ++ cons_option o []) e) ∙ fold-append f a (records_of P) (r ∷ [])

same_by : {A : Type 0} (f : A → Record → A) (a : A) (P : Log) (body : List ℕ) → record_of body ≡ None → fold f a (records_of (P ++ body ∷ [])) ≡ fold f a (records_of P)
same_by f a P body e =
    ap (fold f a) (filter_map-append record_of P (body ∷ []) ∙ ap (λ o. records_of P ++ cons_option o []) e ∙ append-nil (records_of P))

used_by : ReserveRises → IndexRises → (P : Log) (body : List ℕ) (h : Header) (o : Option Record) → header_of P ≡ Some h → record_of body ≡ o → failing_of P body ≡ None → used_of P ≤ reserved_of P →
    used_of (P ++ body ∷ []) ≤ reserved_of (P ++ body ∷ [])
used_by rises index P body h None headed e none was =
    let u : used_of (P ++ body ∷ []) ≡ used_of P = same_by used_after 0 P body e in
    let r : reserved_of (P ++ body ∷ []) ≡ reserved_of P = same_by reserved_after 0 P body e in
    omega (arith, u, r, was)
used_by rises index P body h (Some (header_record g)) headed e none was =
    let u : used_of (P ++ body ∷ []) ≡ used_of P = more_by used_after 0 P body (header_record g) e in
    let r : reserved_of (P ++ body ∷ []) ≡ reserved_of P = more_by reserved_after 0 P body (header_record g) e in
    omega (arith, u, r, was)
used_by rises index P body h (Some (reserve_record upto)) headed e none was =
    let u : used_of (P ++ body ∷ []) ≡ used_of P = more_by used_after 0 P body (reserve_record upto) e in
    let r : reserved_of (P ++ body ∷ []) ≡ upto = more_by reserved_after 0 P body (reserve_record upto) e in
    let holds = rises P h body upto headed e none in
    let below : reserved_of P < upto = ltb-true (reserved_of P) upto (and_parts _ _ (and_parts _ _ holds).0).0 in
    omega (arith, u, r, was, below)
used_by rises index P body h (Some (batch_record b)) headed e none was =
    let u : used_of (P ++ body ∷ []) ≡ max (used_of P) (b.index + 1) = more_by used_after 0 P body (batch_record b) e in
    let r : reserved_of (P ++ body ∷ []) ≡ reserved_of P = more_by reserved_after 0 P body (batch_record b) e in
    let below : b.index < reserved_of P = (index P h body b headed e none).1 in
    omega (arith, u, r, was, below)

used_more : OneMore → HeaderIsFirst → ReserveRises → IndexRises → (P : Log) (body : List ℕ) → IsKept P → failing_of P body ≡ None → IsKept (P ++ body ∷ [])
used_more more first rises index [] body kept none =
    let well = more [] body kept.sound none in
    record { sound = well; used = used_first first body well }
used_more more first rises index (b ∷ P) body kept none =
    let headed = first b P kept.sound in
    record {
      sound = more (b ∷ P) body kept.sound none;
      used = used_by rises index (b ∷ P) body headed.0 (record_of body) headed.1 refl none kept.used;
    }

pub used_reserved : OneMore → HeaderIsFirst → ReserveRises → IndexRises → (R : Log) → WellMade R → used_of R ≤ reserved_of R
used_reserved more first rises index R well =
    (grow IsKept (used_more more first rises index) [] R (record { sound = tt; used = omega arith }) well).used

-- ---- the whole log is read

clash : (h : Header) → Some h ≡ None → ⊥
clash h e = cc

pub no_header : HeaderIsFirst → (R : Log) (o : Option Header) → 0 < length R → WellMade R → o ≡ header_of R → o ≡ None → ⊥
no_header first [] o some well is none = absurd (omega arith)
no_header first (body ∷ R) o some well is none =
    let headed = first body R well in
    clash headed.0 (sym headed.1 ∙ sym is ∙ none)

pub found_fits : OneMore → HeaderIsFirst → ReserveRises → IndexRises → (Tells : Type 0) (state : State) (signer : SignerKey) (records : Log) (S : Standing) →
    StandsFor state S.log → IsHeaded signer S.log → S.next ≡ reserved_of S.log → S.pending ≡ None → length S.log ≡ length records → (Tells → S.log ≡ records) →
    Fits Tells state signer records S
found_fits more first rises index Tells state signer records S stood headed next none counted told =
    let used = used_reserved more first rises index S.log stood.sound in
    record {
      state = stood;
      headed = headed;
      sound = record { log = stood.sound; pending = subst (λ (o : Option (List ℕ)). IfSome o (λ b. WellMade (S.log ++ b ∷ []))) (sym none) tt };
      ahead = omega (arith, next);
      above = omega (arith, used, next);
      counted = sym counted;
      told = λ tells. sym (told tells);
    }
