use Rattle.std.proofs.Common.{◌≡◌, ◌≢◌, ℕ, ◌+◌, ◌-◌, ◌<◌, ◌≤◌, suc, List, [], ◌∷◌, ◌++◌, length, take, drop, get_or, refl, ap, sym, ◌∙◌, arith, length-drop, Result, Ok, is_ok, if◌then◌else◌}
use Rattle.std.proofs.lemmas.List.{take-append-drop, length-take-le, drop_more}
use Rattle.std.proofs.Math.Seq.{take-add}
use Rattle.scitt_journal.specs.Layout.{size_bytes, sized, spelled, starts, AllFit, Short, Cut}
use Rattle.scitt_journal.specs.Stops.{IsWhole, Finds, ExplainsCut, ExplainsLoad}
use Rattle.scitt_journal.specs.declared.stops.LoadStop.{LoadStop}
use Rattle.scitt_journal.specs.declared.stops.LoadStop.TheVariants.{NoLog as no_log, Short as short, DiskFault as disk_fault, OutOfMemory as out_of_memory}
use Rattle.scitt_journal.proofs.Gates.{spelled_push, length-spelled_push, AllFit_push, starts_push, length-starts}

-- the records before this place: their gates are open, and these are their offsets
pub record Scanned (bytes : List ℕ) (gate : ℕ) (offsets : List ℕ) : Type 0 where
  pub bodies : List (List ℕ)
  pub fit : AllFit bodies
  pub place : length (spelled bodies) ≡ gate
  pub starts_so : offsets ≡ starts 0 bodies
  pub front : take gate bytes ≡ spelled bodies

pub scanned_none : (seen : List ℕ) → Scanned seen 0 []
scanned_none seen =
    record { bodies = []; fit = tt; place = refl; starts_so = refl; front = refl }

take_one : (n : ℕ) (xs : List ℕ) → take (1 + n) (1 ∷ xs) ≡ 1 ∷ take n xs
take_one n xs = let e : 1 + n ≡ suc n = omega arith in rw e

-- a whole record more
pub scanned_more : (seen : List ℕ) (gate next : ℕ) (offsets : List ℕ) → Scanned seen gate offsets → get_or seen gate 0 ≡ 1 → IsWhole seen gate next → next < length seen → Scanned seen next (offsets ++ gate ∷ [])
scanned_more seen gate next offsets was opened whole within =
    let tail : List ℕ = drop (gate + 1) seen in
    let size : ℕ = whole.size in
    let body : List ℕ = take size (drop 4 tail) in
    let long : length body ≡ size = length-take-le size (drop 4 tail) (omega (arith, length-drop 4 tail, length-drop (gate + 1) seen, whole.place)) in
    let spelled_so : sized body ≡ take (4 + size) tail = ap (λ n. size_bytes n ++ body) long ∙ ap (λ four. four ++ body) whole.spells ∙ sym (take-add 4 size tail) in
    let rest_is : drop gate seen ≡ 1 ∷ tail = drop_more seen gate 0 (omega (arith, whole.place)) ∙ ap (λ first. first ∷ tail) opened in
    let reached : next ≡ gate + (1 + (4 + size)) = omega (arith, whole.place) in
    let back : take (1 + (4 + size)) (drop gate seen) ≡ 1 ∷ sized body = ap (take (1 + (4 + size))) rest_is ∙ take_one (4 + size) tail ∙ ap (λ rest. 1 ∷ rest) (sym spelled_so) in
    record {
      bodies = was.bodies ++ body ∷ [];
      fit = AllFit_push was.bodies body was.fit (rw long whole.fits);
      place = length-spelled_push was.bodies body ∙ omega (arith, was.place, long, whole.place);
      starts_so = ap (λ list. list ++ gate ∷ []) was.starts_so ∙ ap (λ at. starts 0 was.bodies ++ at ∷ []) (omega (arith, was.place)) ∙ sym (starts_push 0 was.bodies body);
      front = ap (λ n. take n seen) reached ∙ take-add gate (1 + (4 + size)) seen ∙ ap (λ front. front ++ take (1 + (4 + size)) (drop gate seen)) was.front ∙ ap (λ rest. spelled was.bodies ++ rest) back ∙ sym (spelled_push was.bodies body);
    }

split_at : (seen : List ℕ) (gate : ℕ) (offsets : List ℕ) (was : Scanned seen gate offsets) → gate < length seen → seen ≡ spelled was.bodies ++ get_or seen gate 0 ∷ drop (gate + 1) seen
split_at seen gate offsets was within =
    sym (take-append-drop gate seen) ∙ ap (λ front. front ++ drop gate seen) was.front ∙ ap (λ back. spelled was.bodies ++ back) (drop_more seen gate 0 within)

-- the gate that isn't open ends the list
pub finds_end : (seen : List ℕ) (gate rest : ℕ) (offsets : List ℕ) → Scanned seen gate offsets → get_or seen gate 0 ≢ 1 → gate < length seen → 0 < length offsets → rest ≡ length seen - gate - 1 → Finds seen offsets gate rest
finds_end seen gate rest offsets was shut within some left =
    record {
      bodies = was.bodies;
      records = record {
        some = omega (arith, some, ap length was.starts_so, length-starts 0 was.bodies);
        fit = was.fit;
        gate = get_or seen gate 0;
        shut = shut;
        behind = drop (gate + 1) seen;
        is = split_at seen gate offsets was within;
        left = omega (arith, length-drop (gate + 1) seen, left);
      };
      place = was.place;
      starts_so = was.starts_so;
    }

-- a record that passes the end
pub short_at : (seen : List ℕ) (gate : ℕ) (offsets : List ℕ) → Scanned seen gate offsets → get_or seen gate 0 ≡ 1 → gate < length seen → 6 ≤ length seen → Cut (drop (gate + 1) seen) → Short seen gate
short_at seen gate offsets was opened within six cut =
    record {
      bodies = was.bodies;
      after = record {
        six = six;
        fit = was.fit;
        tail = drop (gate + 1) seen;
        cut = cut;
        is = split_at seen gate offsets was within ∙ ap (λ first. spelled was.bodies ++ first ∷ drop (gate + 1) seen) opened;
        place = was.place;
      };
    }

-- why the walk stops
pub explains_walk : (Tells : Type 0) (seen seen_now offsets : List ℕ) (gate before middle now : ℕ) (stop : LoadStop) → middle ≡ before → (Tells → seen_now ≡ seen) → (Tells → Scanned seen gate offsets) → (Tells → gate < length seen) → (Tells → 6 ≤ length seen) → ExplainsCut Tells seen_now gate middle now stop → ExplainsLoad Tells seen before now stop
explains_walk Tells seen seen_now offsets gate before middle now no_log same kept was within six why = absurd why
explains_walk Tells seen seen_now offsets gate before middle now (short at) same kept was within six why = (
  λ tells.
      let cut : (get_or seen gate 0 ≡ 1) × Cut (drop (gate + 1) seen) = rw (kept tells) at (why.1 tells) in
      rw (why.0) (short_at seen gate offsets (was tells) cut.0 (within tells) (six tells) cut.1),
  why.2 ∙ same,
)
explains_walk Tells seen seen_now offsets gate before middle now disk_fault same kept was within six why = omega arith
explains_walk Tells seen seen_now offsets gate before middle now out_of_memory same kept was within six why = absurd why

pub pushed_is : {T E : Type 0} (r : Result T E) (x : T) (old new : List ℕ) (y : ℕ) → r ≡ Ok x → new ≡ (if is_ok r then old ++ y ∷ [] else old) → new ≡ old ++ y ∷ []
pushed_is r x old new y ok e = rw ok at e

four_of : (first : ℕ) (rest : List ℕ) → 4 ≤ length rest → get_or (take 5 (first ∷ rest)) 1 0 ∷ get_or (take 5 (first ∷ rest)) 2 0 ∷ get_or (take 5 (first ∷ rest)) 3 0 ∷ get_or (take 5 (first ∷ rest)) 4 0 ∷ [] ≡ take 4 rest
four_of first [] long = absurd (omega (arith, long))
four_of first (a ∷ []) long = absurd (omega (arith, long))
four_of first (a ∷ b ∷ []) long = absurd (omega (arith, long))
four_of first (a ∷ b ∷ c ∷ []) long = absurd (omega (arith, long))
four_of first (a ∷ b ∷ c ∷ d ∷ rest) long = refl

-- the last four of five bytes are those behind the first one's place
pub four_behind : (seen bytes : List ℕ) (at : ℕ) → bytes ≡ take 5 (drop at seen) → at + 5 ≤ length seen → get_or bytes 1 0 ∷ get_or bytes 2 0 ∷ get_or bytes 3 0 ∷ get_or bytes 4 0 ∷ [] ≡ take 4 (drop (at + 1) seen)
four_behind seen bytes at is within =
    rw (is, drop_more seen at 0 (omega arith)) (four_of (get_or seen at 0) (drop (at + 1) seen) (omega (arith, length-drop (at + 1) seen)))
