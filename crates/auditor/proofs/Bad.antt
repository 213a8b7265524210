-- The first bad record of a log with one record more.
use Rattle.std.proofs.Common.{◌≡◌, ℕ, ◌<◌, List, [], ◌∷◌, ◌++◌, Some, None, Option, length, take, get_or, ap, sym, subst, ◌∙◌, arith, length-append}
use Rattle.std.proofs.Math.Seq.{take-append_seam, get_or-append_seam}
use Rattle.std.proofs.lemmas.List.{take-append-le, get_or_append_left}
use Rattle.std.proofs.lemmas.Option.{slice_get_within, get_or_from_slice_get, slice_get-get_or}
use Rattle.log_replay.specs.declared.words.Failing.{Failing}
use Rattle.log_replay.specs.declared.state.State.{State}
use Rattle.log_replay.specs.Records.{Log}
use Rattle.log_replay.specs.WellMade.{WellMade, IsFirstBad, failing_of}
use Rattle.log_replay.specs.StateSeen.{StandsFor}
use Rattle.log_replay.specs.Kept.{Kept}
use Rattle.log_replay.specs.Steps.{TakesOf}
use Rattle.auditor.specs.declared.walk.BadRecord.{BadRecord}
use Rattle.auditor.specs.Walks.{Judged}

-- it stays
pub bad_more : (R : Log) (body : List ℕ) (n : ℕ) (f : Failing) → IsFirstBad R n f → IsFirstBad (R ++ body ∷ []) n f
bad_more R body n f b =
    let within : n < length R = slice_get_within R n b.body b.there in
    let front : take n (R ++ body ∷ []) ≡ take n R = take-append-le n R (body ∷ []) (omega (arith, within)) in
    let longer : n < length (R ++ body ∷ []) = omega (arith, within, length-append R (body ∷ [])) in
    record {
      before = subst WellMade (sym front) b.before;
      body = b.body;
      there = slice_get-get_or (R ++ body ∷ []) n body longer ∙ ap Some (get_or_append_left R (body ∷ []) body n within ∙ get_or_from_slice_get R n b.body body b.there);
      failing = subst (λ (X : Log). failing_of X b.body ≡ Some f) (sym front) b.failing;
    }

-- or it is the new one
pub bad_here : (R : Log) (body : List ℕ) (n : ℕ) (f : Failing) → n ≡ length R → WellMade R → failing_of R body ≡ Some f → IsFirstBad (R ++ body ∷ []) n f
bad_here R body n f at sound fails =
    let front : take n (R ++ body ∷ []) ≡ R = ap (λ (k : ℕ). take k (R ++ body ∷ [])) at ∙ take-append_seam R (body ∷ []) in
    let longer : n < length (R ++ body ∷ []) = omega (arith, at, length-append R (body ∷ [])) in
    record {
      before = subst WellMade (sym front) sound;
      body = body;
      there = slice_get-get_or (R ++ body ∷ []) n body longer ∙ ap Some (ap (λ (k : ℕ). get_or (R ++ body ∷ []) k body) at ∙ get_or-append_seam R body [] body);
      failing = subst (λ (X : Log). failing_of X body ≡ Some f) (sym front) fails;
    }

-- what a walk knows of one record more
pub still_bad : (s : State) (bad : Option BadRecord) (first : BadRecord) (R : Log) (body : List ℕ) → bad ≡ Some first → Judged s bad R → Judged s bad (R ++ body ∷ [])
still_bad s None first R body e j = absurd (cc)
still_bad s (Some b) first R body e j = bad_more R body b.number b.failing j

pub stands_of : (s : State) (bad : Option BadRecord) (R : Log) → bad ≡ None → Judged s bad R → StandsFor s R
stands_of s None R e j = j
stands_of s (Some b) R e j = absurd (cc)

pub judged_of : (s : State) (bad : Option BadRecord) (R : Log) → bad ≡ None → StandsFor s R → Judged s bad R
judged_of s None R e j = j
judged_of s (Some b) R e j = absurd (cc)

pub judged_bad : (s : State) (bad : Option BadRecord) (R : Log) (body : List ℕ) (number : ℕ) (o : Option Failing) (f : Failing) (K : Kept) → bad ≡ None → o ≡ Some f
    → Judged s bad R → number ≡ length R → ((X : Log) → StandsFor s X → TakesOf X body o K) → IsFirstBad (R ++ body ∷ []) number f
judged_bad s bad R body number o f K none is judged at takes =
    let stands : StandsFor s R = stands_of s bad R none judged in
    let taken : TakesOf R body (Some f) K = subst (λ (x : Option Failing). TakesOf R body x K) is (takes R stands) in
    bad_here R body number f at stands.sound taken.0

pub first_of : (s : State) (bad : Option BadRecord) (first : BadRecord) (R : Log) → bad ≡ Some first → Judged s bad R → IsFirstBad R first.number first.failing
first_of s bad first R is j = subst (λ (x : Option BadRecord). Judged s x R) is j
