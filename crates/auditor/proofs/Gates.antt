-- The bytes at one gate, behind those of the records before it.
use Rattle.std.proofs.Common.{◌≡◌, ◌≢◌, ◌∙◌, ℕ, ◌+◌, ◌-◌, ◌*◌, ◌^◌, ◌≤◌, ◌<◌, List, [], ◌∷◌, ◌++◌, Some, None, Option, length, Result, Ok, Err, get_or, refl, ap, sym, subst, arith, append_assoc, append-nil, length-append}
use Rattle.std.specs.Prelude.{◌==◌, false}
use Rattle.std.proofs.lemmas.Bool.Decides.{nat_tests}
use Rattle.std.specs.Io.KnownBytes.{Consumes, IsAtEnd}
use Rattle.std.proofs.KnownBytes.{Consumes-trans}
use Rattle.scitt_io.specs.declared.source.ReadStop.{ReadStop}
use Rattle.scitt_io.specs.declared.source.ReadStop.TheVariants as stop
use Rattle.scitt_journal.specs.Layout.{size_bytes, sized, spelled, AllFit, Cut, CutAfter}
use Rattle.log_replay.specs.Records.{Log}
use Rattle.auditor.specs.declared.answers.Ended.{Ended}
use Rattle.auditor.specs.declared.answers.Ended.TheVariants as ended
use Rattle.auditor.specs.declared.stepping.Whole.{Whole}
use Rattle.auditor.specs.declared.stepping.Behind.TheVariants as behind
use Rattle.auditor.specs.Streams.{Says}
use Rattle.auditor.specs.Keeping.{KeepsPlace}
use Rattle.auditor.proofs.Taking.{took_well}
use Rattle.auditor.specs.Fetches.{Took, IsBehind, Reads, AreBefore, read_of}

-- ---- records as bytes

pub spelled_push : (bodies : List (List ℕ)) (body : List ℕ) → spelled (bodies ++ body ∷ []) ≡ spelled bodies ++ 1 ∷ sized body
spelled_push [] body = ap (λ (rest : List ℕ). 1 ∷ rest) (append-nil (sized body))
spelled_push (first ∷ bodies) body =
    ap (λ (rest : List ℕ). 1 ∷ (sized first ++ rest)) (spelled_push bodies body) ∙ ap (λ (rest : List ℕ). 1 ∷ rest) (sym (append_assoc (sized first) (spelled bodies) (1 ∷ sized body)))

pub fit_push : (bodies : List (List ℕ)) (body : List ℕ) → AllFit bodies → length body < 2 ^ 32 → AllFit (bodies ++ body ∷ [])
fit_push [] body fit fits = (fits, tt)
fit_push (first ∷ bodies) body fit fits = (fit.0, fit_push bodies body fit.1 fits)

long_size : (n : ℕ) → length (size_bytes n) ≡ 4
unfolding size_bytes
long_size n = refl

pub long_sized : (body : List ℕ) → length (sized body) ≡ 4 + length body
long_sized body = omega (arith, length-append (size_bytes (length body)) body, long_size (length body))

-- a record has five bytes and more
pub five_each : (bodies : List (List ℕ)) → 5 * length bodies ≤ length (spelled bodies)
five_each [] = omega arith
five_each (first ∷ bodies) = omega (arith, five_each bodies, long_sized first, length-append (sized first) (spelled bodies))

pub long_push : (bodies : List (List ℕ)) (body : List ℕ) → length (spelled (bodies ++ body ∷ [])) ≡ length (spelled bodies) + (5 + length body)
long_push bodies body =
    omega (arith, ap length (spelled_push bodies body), length-append (spelled bodies) (1 ∷ sized body), long_sized body)

none_long : (bodies : List (List ℕ)) → length (spelled bodies) ≡ 0 → bodies ≡ []
none_long [] long = refl
none_long (first ∷ bodies) long = absurd (omega (arith, long, five_each (first ∷ bodies)))

-- ---- a record that passes the end

pub cut_here : (R : Log) (bytes : List ℕ) (place : ℕ) (gate : Option ℕ) → AreBefore R place gate → Cut bytes → 6 ≤ place + 1 + length bytes → CutAfter (spelled R ++ 1 ∷ bytes) R place
cut_here R bytes place gate before cut six = record {
  six = omega (arith, six, before.long, length-append (spelled R) (1 ∷ bytes));
  fit = before.fit;
  tail = bytes;
  cut = cut;
  is = refl;
  place = before.long;
}

-- behind records there are six bytes and more
pub six_there : (R : Log) (place : ℕ) (gate : Option ℕ) → AreBefore R place gate → place ≢ 0 → 5 ≤ place
six_there [] place gate before some = absurd (some (sym before.long))
six_there (body ∷ R) place gate before some = omega (arith, before.long, five_each (body ∷ R))

-- ---- one step after another

never_ok : {T : Type 0} (v : T) (e : ReadStop) → Ok v ≡ Err e → ⊥
never_ok v e is = cc

abbrev stopped : (T : Type 0) → ReadStop → Result T ReadStop
stopped T e = Err e

err_is : (T : Type 0) (e f : ReadStop) → stopped T e ≡ stopped T f → e ≡ f
err_is T e f is = cc

few_of : {T : Type 0} (room : ℕ) (Is : List ℕ → Option (List ℕ) → T → Type 0) (old new : Option (List ℕ)) (v : T) (t : Took room Is old new (Ok v)) → length t.bytes ≤ room
few_of room Is old new v t =
    let not_past : length t.bytes ≡ room + 1 → ⊥ = λ past. never_ok v stop.TooLong (t.too_long.1 past) in
    omega (arith, t.within, not_past)

-- bytes, and a refusal behind them
pub took_then_stopped : {T U : Type 0} (room less : ℕ) (Then : List ℕ → Option (List ℕ) → U → Type 0) (Both : List ℕ → Option (List ℕ) → T → Type 0)
    (old mid new : Option (List ℕ)) (front : List ℕ) (e : ReadStop) → Consumes old mid front → length front + less ≡ room → Took {T = U} less Then mid new (Err e) → Took {T = T} room Both old new (Err e)
took_then_stopped {T} {U} room less Then Both old mid new front e taken whole t = record {
  bytes = front ++ t.bytes;
  taken = Consumes-trans old mid new front t.bytes taken t.taken;
  within = omega (arith, t.within, whole, length-append front t.bytes);
  too_long = (
    λ is. omega (arith, t.too_long.0 (ap (stopped U) (err_is T e stop.TooLong is)), whole, length-append front t.bytes),
    λ past. ap (stopped T) (err_is U e stop.TooLong (t.too_long.1 (omega (arith, past, whole, length-append front t.bytes)))),
  );
  is = tt;
}

-- bytes, and others behind them
pub took_then_more : {T U : Type 0} (room less : ℕ) (Then : List ℕ → Option (List ℕ) → U → Type 0) (Both : List ℕ → Option (List ℕ) → T → Type 0)
    (old mid new : Option (List ℕ)) (front : List ℕ) (u : U) (v : T) → Consumes old mid front → length front + less ≡ room → (t : Took {T = U} less Then mid new (Ok u)) → Both (front ++ t.bytes) new v
    → Took {T = T} room Both old new (Ok v)
took_then_more room less Then Both old mid new front u v taken whole t both =
    let few = few_of less Then mid new u t in
    took_well room Both old new (front ++ t.bytes) v (Consumes-trans old mid new front t.bytes taken t.taken) (omega (arith, few, whole, length-append front t.bytes)) both

-- ---- the answer at a gate

joined : (R : Log) (gate : ℕ) (bytes : List ℕ) → (spelled R ++ gate ∷ []) ++ bytes ≡ spelled R ++ gate ∷ bytes
joined R gate bytes = append_assoc (spelled R) (gate ∷ []) bytes

long_front : (R : Log) (gate : ℕ) (bytes : List ℕ) → length ((spelled R ++ gate ∷ []) ++ bytes) ≡ length (spelled R) + 1 + length bytes
long_front R gate bytes = omega (arith, ap length (joined R gate bytes), length-append (spelled R) (gate ∷ bytes))

never_ended : (w : Whole) (e : Ended) → Ok w ≡ Err e → ⊥
never_ended w e is = cc

abbrev refused : Ended → Result Whole Ended
refused e = Err e

ended_is : (e f : Ended) → refused e ≡ refused f → e ≡ f
ended_is e f is = cc

pub reads_ended : {T : Type 0} (limit place gate : ℕ) (Is : List ℕ → Option (List ℕ) → T → Type 0) (old new : Option (List ℕ)) (v : T) (e : Ended) (R : Log) → AreBefore R place (Some gate) → place < limit
    → (t : Took (limit - place - 1) Is old new (Ok v)) → (e ≡ ended.TooLong → ⊥) → Says R (spelled R ++ gate ∷ t.bytes) new (read_of e) [] → Reads limit R (spelled R ++ gate ∷ []) old new (Err e)
reads_ended limit place gate Is old new v e R before within t other says =
    let few = few_of (limit - place - 1) Is old new v t in
    let long = long_front R gate t.bytes in
    record {
      bytes = t.bytes;
      taken = t.taken;
      within = omega (arith, few, long, before.long, within);
      too_long = (λ is. absurd (other (ended_is e ended.TooLong is)), λ past. absurd (omega (arith, past, few, long, before.long, within)));
      says = subst (λ (bytes : List ℕ). Says R bytes new (read_of e) []) (sym (joined R gate t.bytes)) says;
    }

pub reads_whole : (limit place gate : ℕ) (old new : Option (List ℕ)) (w : Whole) (R : Log) → gate ≡ 1 → AreBefore R place (Some gate) → place < limit
    → Took (limit - place - 1) IsBehind old new (Ok (behind.Whole w)) → Reads limit R (spelled R ++ gate ∷ []) old new (Ok w)
reads_whole limit place gate old new w R opened before within t =
    let few = few_of (limit - place - 1) IsBehind old new (behind.Whole w) t in
    let long = long_front R gate t.bytes in
    record {
      bytes = t.bytes;
      taken = t.taken;
      within = omega (arith, few, long, before.long, within);
      too_long = (λ is. absurd (never_ended w ended.TooLong is), λ past. absurd (omega (arith, past, few, long, before.long, within)));
      says = (
        joined R gate t.bytes ∙ ap (λ (x : ℕ). spelled R ++ x ∷ t.bytes) opened ∙ ap (λ (tail : List ℕ). spelled R ++ 1 ∷ tail) t.is.0 ∙ sym (append_assoc (spelled R) (1 ∷ sized w.body) (w.gate ∷ [])) ∙ ap (λ (front : List ℕ). front ++ w.gate ∷ []) (sym (spelled_push R w.body)),
        t.is.1,
      );
    }

pub reads_cut : (limit place gate tail : ℕ) (old new : Option (List ℕ)) (e : Ended) (R : Log) → gate ≡ 1 → AreBefore R place (Some gate) → place < limit
    → (t : Took (limit - place - 1) IsBehind old new (Ok (behind.Cut tail))) → (e ≡ ended.TooLong → ⊥)
    → ((bytes : List ℕ) (left : Option (List ℕ)) → AreBefore R place (Some 1) → Cut bytes → tail ≡ length bytes → IsAtEnd left → Says R (spelled R ++ 1 ∷ bytes) left (read_of e) [])
    → Reads limit R (spelled R ++ gate ∷ []) old new (Err e)
reads_cut limit place gate tail old new e R opened before within t other says =
    let here = subst (λ (x : ℕ). AreBefore R place (Some x)) opened before in
    reads_ended limit place gate IsBehind old new (behind.Cut tail) e R before within t other
    (subst (λ (x : ℕ). Says R (spelled R ++ x ∷ t.bytes) new (read_of e) []) (sym opened) (says t.bytes new here t.is.0 t.is.1 t.is.2))

one_byte : (bytes : List ℕ) (d : ℕ) → length bytes ≡ 1 → bytes ≡ get_or bytes 0 d ∷ []
one_byte [] d long = absurd (omega (arith, long))
one_byte (x ∷ []) d long = refl
one_byte (x ∷ y ∷ bytes) d long = absurd (omega (arith, long))

pub is_one : (bytes items : List ℕ) (gate : ℕ) → items ≡ bytes → length bytes ≤ 1 → 0 < length items → gate ≡ get_or items 0 gate → bytes ≡ gate ∷ []
is_one bytes items gate same most some first =
    sym same ∙ one_byte items gate (omega (arith, ap length same, most, some)) ∙ ap (λ (x : ℕ). x ∷ []) (sym first)

pub some_there : (items : List ℕ) (n : ℕ) → n ≡ length items → false ≡ n == 0 → 0 < length items
some_there items n long test = grind (arith, nat_tests)

-- the first gate, and what was read at it
pub reads_first : (limit gate : ℕ) (old mid new : Option (List ℕ)) (one : List ℕ) (result : Result Whole Ended) → Consumes old mid one → one ≡ gate ∷ [] → Reads limit [] ([] ++ gate ∷ []) mid new result → Reads limit [] [] old new result
reads_first limit gate old mid new one result taken is r = record {
  bytes = gate ∷ r.bytes;
  taken = Consumes-trans old mid new (gate ∷ []) r.bytes (subst (λ (bytes : List ℕ). Consumes old mid bytes) is taken) r.taken;
  within = r.within;
  too_long = r.too_long;
  says = r.says;
}

pub before_first : (gate : ℕ) → AreBefore [] 0 (Some gate)
before_first gate = record { fit = tt; long = refl; none = λ _. refl }

-- ---- behind a record

pub place_behind : (limit place : ℕ) (gate : Option ℕ) (R : Log) (front : List ℕ) (old new : Option (List ℕ)) (w : Whole) → AreBefore R place gate → Reads limit R front old new (Ok w) → place + (length w.body + 5) < limit
place_behind limit place gate R front old new w before r =
    let not_past : length (front ++ r.bytes) ≡ limit + 1 → ⊥ = λ past. never_ended w ended.TooLong (r.too_long.1 past) in
    omega (arith, r.within, not_past, before.long, ap length r.says.0, long_push R w.body, length-append (spelled (R ++ w.body ∷ [])) (w.gate ∷ []))

pub before_next : (limit place : ℕ) (gate : Option ℕ) (R : Log) (front : List ℕ) (old new : Option (List ℕ)) (w : Whole) → AreBefore R place gate → Reads limit R front old new (Ok w)
    → AreBefore (R ++ w.body ∷ []) (place + (length w.body + 5)) (Some w.gate)
before_next limit place gate R front old new w before r = record {
  fit = fit_push R w.body before.fit r.says.1;
  long = omega (arith, before.long, long_push R w.body);
  none = λ e. absurd (cc);
}

pub keeps_next : (limit place len : ℕ) (gate : Option ℕ) (ended : Option Ended) (R S : Log) (front : List ℕ) (old new : Option (List ℕ)) (w : Whole) → ((e : Ended) → ended ≡ Some e → ⊥) → AreBefore R place gate
    → Reads limit R front old new (Ok w) → len ≡ length w.body → S ≡ R ++ w.body ∷ [] → KeepsPlace limit (place + (len + 5)) (Some w.gate) ended S
keeps_next limit place len gate ended R S front old new w on before r long given = record {
  before = λ _. rw (given, long) (before_next limit place gate R front old new w before r);
  within = λ g is. omega (arith, long, place_behind limit place gate R front old new w before r);
  free = λ e is. absurd (on e is);
}

pub on_still : (ended : Option Ended) → ((e : Ended) → ended ≡ Some e → ⊥) → ended ≡ None
on_still None on = refl
on_still (Some e) on = absurd (on e refl)
