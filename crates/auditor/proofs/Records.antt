-- The records before a place of a file.
use Rattle.std.proofs.Common.{◌≡◌, ◌≢◌, ℕ, ◌+◌, ◌^◌, ◌<◌, ◌≤◌, List, [], ◌∷◌, ◌++◌, length, drop, get_or, refl, ap, sym, ◌∙◌, arith, append_assoc, append-nil, length-append}
use Rattle.log_replay.specs.Records.{Log}
use Rattle.scitt_journal.specs.Layout.{sized, spelled, AllFit, Cut}
use Rattle.auditor.specs.declared.walk.Walk.{Walk}
use Rattle.auditor.specs.declared.walk.End.TheVariants as end
use Rattle.auditor.specs.Walks.{Knows, IsAt, IsRecord, IsFound}
use Rattle.auditor.proofs.Gates.{spelled_push, fit_push, five_each}

opened : (rest : List ℕ) → 0 < length rest → rest ≡ get_or rest 0 0 ∷ drop 1 rest
opened [] some = absurd (omega (arith, some))
opened (x ∷ rest) some = refl

-- nothing is before the first gate
pub at_first : (bytes : List ℕ) (w : Walk) → Knows w [] → IsAt bytes bytes w
at_first bytes w k = record { log = []; fit = tt; is = refl; knows = k }

-- there are fewer records than bytes
pub number_below : (bytes rest : List ℕ) (w : Walk) → IsAt bytes rest w → w.number ≤ length bytes
number_below bytes rest w at =
    omega (arith, at.knows.number, five_each at.log, ap length at.is, length-append (spelled at.log) rest)

-- a record more
pub at_more : (bytes rest tail body behind : List ℕ) (old new : Walk) → IsAt bytes rest old → 0 < length rest → get_or rest 0 0 ≡ 1 → tail ≡ drop 1 rest → IsRecord tail body behind
    → ((R : Log) → Knows old R → Knows new (R ++ body ∷ [])) → IsAt bytes behind new
at_more bytes rest tail body behind old new at some gate_is back found more =
    let here : rest ≡ 1 ∷ (sized body ++ behind) = opened rest some ∙ ap (λ (gate : ℕ). gate ∷ drop 1 rest) gate_is ∙ ap (λ (list : List ℕ). 1 ∷ list) (sym back ∙ found.is) in
    record {
      log = at.log ++ body ∷ [];
      fit = fit_push at.log body at.fit found.fits;
      is = at.is ∙ ap (λ (tail : List ℕ). spelled at.log ++ tail) here ∙ sym (append_assoc (spelled at.log) (1 ∷ sized body) behind) ∙ ap (λ (front : List ℕ). front ++ behind) (sym (spelled_push at.log body));
      knows = more at.log at.knows;
    }

some_log : (bytes rest : List ℕ) (log : Log) → bytes ≡ spelled log ++ rest → get_or bytes 0 0 ≡ 1 → get_or rest 0 0 ≢ 1 → 0 < length log
some_log bytes rest [] is first shut = absurd (shut (ap (λ (list : List ℕ). get_or list 0 0) (sym is) ∙ first))
some_log bytes rest (body ∷ log) is first shut = omega arith

-- a gate that isn't gate_is ends the records
pub at_shut : (bytes rest : List ℕ) (w : Walk) (left : ℕ) → IsAt bytes rest w → 0 < length rest → get_or rest 0 0 ≢ 1 → get_or bytes 0 0 ≡ 1 → left + 1 ≡ length rest
    → IsFound bytes (record { walk = w; end = end.Shut left })
at_shut bytes rest w left at some shut first long =
    let here : rest ≡ get_or rest 0 0 ∷ drop 1 rest = opened rest some in (
      at.log,
      at.knows,
      record {
        some = some_log bytes rest at.log at.is first shut;
        fit = at.fit;
        gate = get_or rest 0 0;
        shut = shut;
        behind = drop 1 rest;
        is = at.is ∙ ap (λ (tail : List ℕ). spelled at.log ++ tail) here;
        left = omega (arith, ap length here, long);
      },
    )

-- a record that passes the end
pub at_cut : (bytes rest tail : List ℕ) (w : Walk) (place : ℕ) → IsAt bytes rest w → 0 < length rest → get_or rest 0 0 ≡ 1 → 6 ≤ length bytes → tail ≡ drop 1 rest → Cut tail → place + length rest ≡ length bytes
    → IsFound bytes (record { walk = w; end = end.Cut place })
at_cut bytes rest tail w place at some gate_is six back cut long =
    let here : rest ≡ 1 ∷ tail = opened rest some ∙ ap (λ (gate : ℕ). gate ∷ drop 1 rest) gate_is ∙ ap (λ (list : List ℕ). 1 ∷ list) (sym back) in (
      at.log,
      at.knows,
      record {
        six = six;
        fit = at.fit;
        tail = tail;
        cut = cut;
        is = at.is ∙ ap (λ (list : List ℕ). spelled at.log ++ list) here;
        place = omega (arith, long, ap length at.is, length-append (spelled at.log) rest);
      },
    )
