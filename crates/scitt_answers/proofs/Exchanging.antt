-- One exchange, or none, as a session.
use Rattle.std.proofs.Common.{◌≡◌, ℕ, ◌<◌, List, [], ◌∷◌, ◌++◌, length, take, Bool, ◌==◌, Option, None, Some, Ok, Err, refl, sym, subst, arith, append-nil}
use Rattle.std.specs.Prelude.{⊤}
use Rattle.std.proofs.lemmas.List.{take_all}
use Rattle.std.specs.Io.KnownBytes.{Consumes, Appends}
use Rattle.std.proofs.KnownBytes.{Appends-nil}
use Rattle.scitt_io.specs.Sink.{WritesFront}
use Rattle.http_wire.specs.declared.answer.Answer.{Answer}
use Rattle.http_wire.specs.Answering.{answer_bytes}
use Rattle.scitt_answers.specs.declared.serving.SessionEnd.{SessionEnd}
use Rattle.scitt_answers.specs.declared.serving.SessionEnd.TheVariants as end
use Rattle.scitt_answers.specs.Marks.{Mark, Step, Next, LeavesSize}
use Rattle.scitt_answers.specs.Exchanges.{ClockState, Asked, Exchange, exchange_of, Answers}
use Rattle.scitt_answers.specs.Sessions.{ReadsAsked, text_of, Writes, Ends, EndsIn, LatestIs, Answered, Served}

pub front_whole : {E : Type 0} (xs : List ℕ) (old new : Option (List ℕ)) → WritesFront {E = E} xs old new (Ok tt) → Appends old new xs
front_whole xs old new w = let whole : w.count ≡ length xs = w.all.0 refl in subst (Appends old new) (take_all w.count xs (omega (arith, whole))) w.taken

pub front_part : {E : Type 0} (xs : List ℕ) (old new : Option (List ℕ)) (e : E) → WritesFront xs old new (Err e)
    → (n : ℕ) × (n < length xs) × Appends old new (take n xs)
front_part xs old new e w =
    let some : w.count ≡ length xs → ⊥ = λ same. cc (w.all.1 same) in
    (w.count, omega (arith, some, w.within), w.taken)

pub nothing_served : {tells : Bool} {follows : Mark → Mark → Type 0} {number number' : ℕ} {begins : Mark → Type 0} {last : Mark → Mark → Type 0} {held held' : List ℕ}
    {left left' taken taken' : Option (List ℕ)} {clock : ClockState} {how : Option SessionEnd} (bytes : List ℕ)
    → Consumes left left' bytes → Writes [] taken taken' how → Ends number number' [] (held ++ bytes) held' left' how
    → Served tells follows number number' begins begins last last held held' left left' taken taken' clock clock how
nothing_served {held} bytes read written ends = record {
  es = [];
  bytes = bytes;
  rest = held ++ bytes;
  read = read;
  asked = refl;
  each = tt;
  chain = tt;
  next = λ m h. h;
  latest = tt;
  untouched = λ _ found left h. h;
  clock_is = refl;
  written = written;
  ends = ends;
}

-- where a turn may begin after some turns, by what the holder says of the last of them
pub next_by_last : (begins begins' : Mark → Type 0) (follows last : Mark → Mark → Type 0) (steps : List Step) (size : ℕ)
    → ((found left next : Mark) → last found left → begins' next → follows left next)
    → LatestIs last steps → LeavesSize steps size → (m : Mark) → begins' m → Next begins follows steps m
next_by_last begins begins' follows last [] size law latest leaves m b = absurd leaves
next_by_last begins begins' follows last (s ∷ []) size law latest leaves m b = law s.found s.left m latest b
next_by_last begins begins' follows last (s ∷ t ∷ steps) size law latest leaves m b =
    next_by_last (follows s.left) begins' follows last (t ∷ steps) size law latest leaves m b

-- the answer of a request of this number, or to a head that is refused
abbrev pub AnsweredTo : Bool → (Mark → Mark → Type 0) → (Mark → Type 0) → (Mark → Mark → Type 0) → ℕ → Asked → ClockState → ClockState → Answer → Type 0
AnsweredTo tells follows begins last number asked clock clock' answer =
    Answered tells follows begins last answer.size (λ steps. Answers (number == 1000) (exchange_of asked clock clock' steps answer) asked)

pub one_served : {tells : Bool} {follows : Mark → Mark → Type 0} {number number' : ℕ} {begins begins' : Mark → Type 0} {before last : Mark → Mark → Type 0} {held held' : List ℕ}
    {left left' taken taken' : Option (List ℕ)} {clock clock' : ClockState} {how : Option SessionEnd} (asked : Asked) (answer : Answer) (bytes rest : List ℕ)
    → (a : AnsweredTo tells follows begins last number asked clock clock' answer)
    → ((found left next : Mark) → last found left → begins' next → follows left next)
    → Consumes left left' bytes → ReadsAsked (held ++ bytes) (asked ∷ []) rest
    → Writes (exchange_of asked clock clock' a.steps answer ∷ []) taken taken' how
    → Ends number number' (exchange_of asked clock clock' a.steps answer ∷ []) rest held' left' how
    → Served tells follows number number' begins begins' before last held held' left left' taken taken' clock clock' how
one_served {tells} {follows} {number} {begins} {begins'} {last} {clock} {clock'} asked answer bytes rest a law read reads written ends = record {
  es = exchange_of asked clock clock' a.steps answer ∷ [];
  bytes = bytes;
  rest = rest;
  read = read;
  asked = reads;
  each = (record { turns = a.turns; size = a.leaves; answers = a.does }, tt);
  chain = rw append-nil a.chain;
  next = λ m h. rw append-nil (next_by_last begins begins' follows last a.steps answer.size law a.latest a.leaves m h);
  latest = rw append-nil a.latest;
  untouched = λ e found left h. cc e;
  clock_is = (refl, refl);
  written = written;
  ends = ends;
}

pub unwritten : (a b : Option (List ℕ)) → b ≡ a → Appends a b []
unwritten a b e = subst (λ (x : Option (List ℕ)). Appends a x []) (sym e) (Appends-nil a)

pub one_part : {E : Type 0} (e : Exchange) (taken mid taken' : Option (List ℕ)) (d : E) → mid ≡ taken → WritesFront (answer_bytes e.answer) mid taken' (Err d)
    → Writes (e ∷ []) taken taken' (Some end.WriteFault)
one_part e taken mid taken' d same w =
    let p = front_part (answer_bytes e.answer) mid taken' d w in
    (p.0, omega arith, rw append-nil p.1, rw (append-nil, ← same) p.2)

pub one_whole : {E : Type 0} (e : Exchange) (taken mid taken' : Option (List ℕ)) → mid ≡ taken → WritesFront {E = E} (answer_bytes e.answer) mid taken' (Ok tt)
    → Appends taken taken' (text_of (e ∷ []))
one_whole e taken mid taken' same w = rw (append-nil, ← same) (front_whole (answer_bytes e.answer) mid taken' w)

pub ends_in_one : (e : Exchange) (P : Asked → Type 0) → P e.asked → EndsIn (e ∷ []) P
ends_in_one e P p = record { front = []; final = e; is = refl; open_front = tt; how = p }

pub still_left : (left mid new : Option (List ℕ)) (bytes : List ℕ) → new ≡ mid → Consumes left mid bytes → Consumes left new bytes
still_left left mid new bytes e h = subst (λ (x : Option (List ℕ)). Consumes left x bytes) (sym e) h

pub one_failed : {E : Type 0} {tells : Bool} {follows : Mark → Mark → Type 0} {number number' : ℕ} {begins begins' : Mark → Type 0} {before last : Mark → Mark → Type 0} {held held' : List ℕ}
    {left left' taken mid taken' : Option (List ℕ)} {clock clock' : ClockState} {d : E} (asked : Asked) (answer : Answer) (bytes rest : List ℕ)
    → (a : AnsweredTo tells follows begins last number asked clock clock' answer)
    → ((found left next : Mark) → last found left → begins' next → follows left next)
    → Consumes left left' bytes → ReadsAsked (held ++ bytes) (asked ∷ []) rest
    → mid ≡ taken → WritesFront (answer_bytes answer) mid taken' (Err d)
    → Served tells follows number number' begins begins' before last held held' left left' taken taken' clock clock' (Some end.WriteFault)
one_failed {taken} {mid} {taken'} {clock} {clock'} {d} asked answer bytes rest a law read reads same w =
    let e : Exchange = exchange_of asked clock clock' a.steps answer in
    one_served asked answer bytes rest a law read reads (one_part e taken mid taken' d same w) (ends_in_one e (λ _. ⊤) tt)

pub one_answered : {E : Type 0} {tells : Bool} {follows : Mark → Mark → Type 0} {number number' : ℕ} {begins begins' : Mark → Type 0} {before last : Mark → Mark → Type 0} {held held' : List ℕ}
    {left left' taken mid taken' : Option (List ℕ)} {clock clock' : ClockState} {how : Option SessionEnd} (asked : Asked) (answer : Answer) (bytes rest : List ℕ)
    → (a : AnsweredTo tells follows begins last number asked clock clock' answer)
    → ((found left next : Mark) → last found left → begins' next → follows left next)
    → Consumes left left' bytes → ReadsAsked (held ++ bytes) (asked ∷ []) rest
    → mid ≡ taken → WritesFront {E = E} (answer_bytes answer) mid taken' (Ok tt)
    → ((es : List Exchange) → Appends taken taken' (text_of es) → Writes es taken taken' how)
    → Ends number number' (exchange_of asked clock clock' a.steps answer ∷ []) rest held' left' how
    → Served tells follows number number' begins begins' before last held held' left left' taken taken' clock clock' how
one_answered {taken} {mid} {taken'} {clock} {clock'} asked answer bytes rest a law read reads same w whole ends =
    let e : Exchange = exchange_of asked clock clock' a.steps answer in
    one_served asked answer bytes rest a law read reads (whole (e ∷ []) (one_whole e taken mid taken' same w)) ends

-- an end doesn't say which request comes next
pub ends_anywhere : (number next other : ℕ) (es : List Exchange) (rest held : List ℕ) (left : Option (List ℕ)) (how : SessionEnd)
    → Ends number next es rest held left (Some how) → Ends number other es rest held left (Some how)
ends_anywhere number next other es rest held left end.Ended h = h
ends_anywhere number next other es rest held left end.CutShort h = h
ends_anywhere number next other es rest held left end.HeadRefused h = h
ends_anywhere number next other es rest held left end.TurnsSpent h = h
ends_anywhere number next other es rest held left end.ReadFault h = h
ends_anywhere number next other es rest held left end.WriteFault h = h
ends_anywhere number next other es rest held left end.OutOfMemory h = h

pub served_anywhere : {tells : Bool} {follows : Mark → Mark → Type 0} {number next other : ℕ} {b b' : Mark → Type 0} {p p' : Mark → Mark → Type 0} {held held' : List ℕ}
    {left left' taken taken' : Option (List ℕ)} {clock clock' : ClockState} {how : SessionEnd}
    → Served tells follows number next b b' p p' held held' left left' taken taken' clock clock' (Some how)
    → Served tells follows number other b b' p p' held held' left left' taken taken' clock clock' (Some how)
served_anywhere {number} {next} {other} {held'} {left'} {how} x = record {
  es = x.es;
  bytes = x.bytes;
  rest = x.rest;
  read = x.read;
  asked = x.asked;
  each = x.each;
  chain = x.chain;
  next = x.next;
  latest = x.latest;
  untouched = x.untouched;
  clock_is = x.clock_is;
  written = x.written;
  ends = ends_anywhere number next other x.es x.rest held' left' how x.ends;
}

-- after the 1,000th request the turns are spent
pub served_spent : {tells : Bool} {follows : Mark → Mark → Type 0} {b b' : Mark → Type 0} {p p' : Mark → Mark → Type 0} {held held' : List ℕ}
    {left left' taken taken' : Option (List ℕ)} {clock clock' : ClockState}
    → Served tells follows 1 1001 b b' p p' held held' left left' taken taken' clock clock' None
    → Served tells follows 1 1001 b b' p p' held held' left left' taken taken' clock clock' (Some end.TurnsSpent)
served_spent x = record {
  es = x.es;
  bytes = x.bytes;
  rest = x.rest;
  read = x.read;
  asked = x.asked;
  each = x.each;
  chain = x.chain;
  next = x.next;
  latest = x.latest;
  untouched = x.untouched;
  clock_is = x.clock_is;
  written = x.written;
  ends = (x.ends.0, sym x.ends.2);
}
