-- Files that are read one after the other, and what is answered of them.
use Rattle.std.proofs.Common.{◌≡◌, ◌≤◌, ◌<◌, ◌+◌, ℕ, List, [], ◌∷◌, ◌++◌, length, map, take, Option, Some, None, inl, inr, refl, sym, ap, ◌∙◌, subst, arith, zero, suc, Result, Ok, Err, append_assoc, length-append}
use Rattle.std.specs.List.{slice_get}
use Rattle.std.specs.Global.{Vec}
use Rattle.std.proofs.lemmas.List.{take_more, map-append}
use Rattle.std.proofs.lemmas.Option.{slice_get_within, get_or_from_slice_get}
use Rattle.scitt_tool.specs.Answer.{too_long}
use Rattle.scitt_tool.specs.Meaning.{all_read}
use Rattle.scitt_tool.specs.Outcome.{Outcome, plain}
use Rattle.scitt_io.specs.declared.source.ReadStop.{ReadStop}
use Rattle.scitt_io.specs.declared.source.ReadStop.TheVariants.{TooLong}
use Rattle.scitt_tool.specs.Asking.{AsksFront}
use Rattle.scitt_tool.specs.Reads.{FileOf, TellsFile, TellsFiles, ReadOf, AllWithin, ByFiles, StopsAt}

-- one name more
pub take_next : (names : List (List ℕ)) (k : ℕ) (name : List ℕ) → slice_get names k ≡ Some name → take (k + 1) names ≡ take k names ++ name ∷ []
take_next names k name e =
    take_more names k name (slice_get_within names k name e)
    ∙ ap (λ (n : List ℕ). take k names ++ n ∷ []) (get_or_from_slice_get names k name name e)

pub all_read_push : (items : List (Vec ℕ)) (v : Vec ℕ) → all_read (items ++ v ∷ []) ≡ all_read items ++ v.items ∷ []
all_read_push items v = map-append (λ (w : Vec ℕ). w.items) items (v ∷ [])

pub within_more : (limit : ℕ) (read : List (List ℕ)) (bytes : List ℕ) → AllWithin limit read → length bytes ≤ limit → AllWithin limit (read ++ bytes ∷ [])
within_more limit [] bytes all short = (short, tt)
within_more limit (r ∷ read) bytes all short = (all.0, within_more limit read bytes all.1 short)

pub told_more : (told : Option FileOf) (names : List (List ℕ)) (k : ℕ) (name : List ℕ) (content : Option (List ℕ)) (read : List (List ℕ)) (bytes : List ℕ)
    → TellsFiles told (take k names) (map Some read) → slice_get names k ≡ Some name → TellsFile told name content → content ≡ Some bytes
    → TellsFiles told (take (k + 1) names) (map Some (read ++ bytes ∷ []))
told_more None names k name content read bytes before here tells is = tt
told_more (Some file_of) names k name content read bytes before here tells is =
    ap (map file_of) (take_next names k name here)
    ∙ map-append file_of (take k names) (name ∷ [])
    ∙ ap (λ (front : List (Option (List ℕ))). front ++ file_of name ∷ []) before
    ∙ ap (λ (last : Option (List ℕ)). map Some read ++ last ∷ []) (tells ∙ is)
    ∙ sym (map-append Some read (bytes ∷ []))

stops_at : (limit : ℕ) (file_of : FileOf) (names : List (List ℕ)) (k : ℕ) (name : List ℕ) (read : List (List ℕ)) (bytes : List ℕ)
    → map file_of (take k names) ≡ map Some read → AllWithin limit read → slice_get names k ≡ Some name → file_of name ≡ Some bytes → limit < length bytes → StopsAt limit (map file_of names)
stops_at limit file_of [] k name read bytes before all here is long = cc
stops_at limit file_of (n ∷ names) zero name read bytes before all here is long =
    let same : n ≡ name = cc in
    subst (λ (c : Option (List ℕ)). StopsAt limit (c ∷ map file_of names)) (sym (ap file_of same ∙ is)) (inr long)
stops_at limit file_of (n ∷ names) (suc k) name [] bytes before all here is long = absurd cc
stops_at limit file_of (n ∷ names) (suc k) name (r ∷ read) bytes before all here is long =
    let first : file_of n ≡ Some r = cc in
    let rest : map file_of (take k names) ≡ map Some read = cc in
    subst (λ (c : Option (List ℕ)). StopsAt limit (c ∷ map file_of names)) (sym first) (inl (all.0, stops_at limit file_of names k name read bytes rest all.1 here is long))

pub stops : (limit : ℕ) (told : Option FileOf) (names : List (List ℕ)) (k : ℕ) (name : List ℕ) (content : Option (List ℕ)) (read : List (List ℕ)) (bytes : List ℕ)
    → TellsFiles told (take k names) (map Some read) → AllWithin limit read → slice_get names k ≡ Some name → TellsFile told name content → content ≡ Some bytes → limit < length bytes
    → (contents : List (Option (List ℕ))) × TellsFiles told names contents × StopsAt limit contents
stops limit None names k name content read bytes before all here tells is long = (Some bytes ∷ [], tt, inr long)
stops limit (Some file_of) names k name content read bytes before all here tells is long =
    (map file_of names, refl, stops_at limit file_of names k name read bytes before all here (tells ∙ is) long)

pub by_all : (limit : ℕ) (Judged : List (List ℕ) → Outcome → Type 0) (read : List (List ℕ)) (outcome : Outcome) → AllWithin limit read → Judged read outcome → ByFiles limit Judged (map Some read) outcome
by_all limit Judged [] outcome all judged = judged
by_all limit Judged (r ∷ read) outcome all judged = inl (all.0, by_all limit (λ more. Judged (r ∷ more)) read outcome all.1 judged)

pub by_stop : (limit : ℕ) (Judged : List (List ℕ) → Outcome → Type 0) (contents : List (Option (List ℕ))) → StopsAt limit contents → ByFiles limit Judged contents (plain (too_long limit))
by_stop limit Judged [] stop = absurd stop
by_stop limit Judged (None ∷ contents) stop = absurd stop
by_stop limit Judged (Some bytes ∷ contents) (inl (short, stop)) = inl (short, by_stop limit (λ more. Judged (bytes ∷ more)) contents stop)
by_stop limit Judged (Some bytes ∷ contents) (inr long) = inr (long, refl)

-- what was asked for, with one name more
pub asked_more : (old mid new names : List (List ℕ)) (k : ℕ) (name : List ℕ) → mid ≡ old ++ take k names → new ≡ mid ++ name ∷ [] → slice_get names k ≡ Some name → new ≡ old ++ take (k + 1) names
asked_more old mid new names k name before now here =
    now ∙ ap (λ (front : List (List ℕ)). front ++ name ∷ []) before ∙ append_assoc old (take k names) (name ∷ []) ∙ ap (λ (tail : List (List ℕ)). old ++ tail) (sym (take_next names k name here))

pub asks_more : (old mid new names : List (List ℕ)) (k : ℕ) (name : List ℕ) → mid ≡ old ++ take k names → new ≡ mid ++ name ∷ [] → slice_get names k ≡ Some name → AsksFront names old new
asks_more old mid new names k name before now here =
    record {
      count = k + 1;
      within = omega (arith, slice_get_within names k name here);
      asked = asked_more old mid new names k name before now here;
    }

pub stops_long : (limit : ℕ) (told : Option FileOf) (names : List (List ℕ)) (k : ℕ) (name : List ℕ) (read : List (List ℕ)) (result : Result (Vec ℕ) ReadStop)
    → TellsFiles told (take k names) (map Some read) → AllWithin limit read → slice_get names k ≡ Some name → (content : Option (List ℕ)) × TellsFile told name content × ReadOf limit content result → result ≡ Err TooLong
    → (contents : List (Option (List ℕ))) × TellsFiles told names contents × StopsAt limit contents
stops_long limit told names k name read result before all here came long =
    let was = subst (λ (r : Result (Vec ℕ) ReadStop). (content : Option (List ℕ)) × TellsFile told name content × ReadOf limit content r) long came in
    stops limit told names k name was.0 read was.2.0 before all here was.1 was.2.1 was.2.2

-- one file more was read
pub record More (limit : ℕ) (files : Option FileOf) (names : List (List ℕ)) (items : List (Vec ℕ)) : Type 0 where
  pub within : length items ≤ length names
  pub told : TellsFiles files (take (length items) names) (map Some (all_read items))
  pub short : AllWithin limit (all_read items)

pub reads_more : (limit : ℕ) (told : Option FileOf) (names : List (List ℕ)) (items : List (Vec ℕ)) (v : Vec ℕ) (name : List ℕ) (pushed : List (Vec ℕ))
    → TellsFiles told (take (length items) names) (map Some (all_read items)) → AllWithin limit (all_read items) → slice_get names (length items) ≡ Some name
    → (content : Option (List ℕ)) × TellsFile told name content × ReadOf limit content (Ok v) → pushed ≡ items ++ v ∷ [] → More limit told names pushed
reads_more limit told names items v name pushed before all here came is =
    let len : length pushed ≡ length items + 1 = omega (arith, ap length is, length-append items (v ∷ [])) in
    let listed : all_read pushed ≡ all_read items ++ v.items ∷ [] = ap all_read is ∙ all_read_push items v in
    record {
      within = omega (arith, len, slice_get_within names (length items) name here);
      told = rw (len, listed) (told_more told names (length items) name came.0 (all_read items) v.items before here came.1 came.2.0);
      short = rw listed (within_more limit (all_read items) v.items all came.2.1);
    }
