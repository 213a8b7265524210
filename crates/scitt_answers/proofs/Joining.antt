-- Exchanges one after another are a session.
use Rattle.std.proofs.Common.{◌≡◌, ℕ, suc, ◌+◌, ◌≤◌, inl, inr, List, [], ◌∷◌, ◌++◌, length, take, Bool, Option, None, Some, refl, sym, ap, ◌∙◌, subst, arith, append_assoc, append-nil, length-append}
use Rattle.std.proofs.lemmas.List.{map-append}
use Rattle.std.proofs.KnownBytes.{Consumes-trans, Appends-trans}
use Rattle.std.proofs.lemmas.Grind.{flat_map-append}
use Rattle.std.specs.Io.KnownBytes.{Appends}
use Rattle.http_wire.specs.declared.request.Request.{Request}
use Rattle.http_wire.specs.Requests.{IsRequest}
use Rattle.http_wire.specs.Answering.{answer_bytes}
use Rattle.scitt_answers.specs.declared.serving.SessionEnd.{SessionEnd}
use Rattle.scitt_answers.specs.declared.serving.SessionEnd.TheVariants as end
use Rattle.scitt_answers.specs.Marks.{Mark, Step, Chain, Next, LeavesSize}
use Rattle.scitt_answers.specs.Exchanges.{ClockState, Asked, request, refused, Exchange, EachIs, Counts}
use Rattle.scitt_answers.specs.Sessions.{ReadsAsked, AreOpen, AllOpen, asked_in, steps_in, EndsIn, text_of, length_before, Writes, Ends, LatestIs, Served}

-- a request stays at the front when more bytes come
pub request_more : {bytes rest : List ℕ} {q : Request} (more : List ℕ) → IsRequest bytes q rest → IsRequest (bytes ++ more) q (rest ++ more)
request_more {bytes} {rest} more r = record {
  head = r.head;
  body = r.body;
  reads = record {
    reads = (r.reads.reads.0, ap (λ (xs : List ℕ). xs ++ more) r.reads.reads.1 ∙ simp append_assoc);
    fields = r.reads.fields;
    size = r.reads.size;
  };
  whole = r.whole;
  is = r.is;
}

pub asked_then : (asks : List Asked) (bytes rest more : List ℕ) (others : List Asked) (rest' : List ℕ)
    → AreOpen asks → ReadsAsked bytes asks rest → ReadsAsked (rest ++ more) others rest' → ReadsAsked (bytes ++ more) (asks ++ others) rest'
asked_then [] bytes rest more others rest' free is h = subst (λ (xs : List ℕ). ReadsAsked (xs ++ more) others rest') (sym is) h
asked_then (request q ∷ asks) bytes rest more others rest' free is h =
    (is.0 ++ more, request_more more is.1, asked_then asks is.0 rest more others rest' free.1 is.2 h)
asked_then (refused why of_head ∷ asks) bytes rest more others rest' free is h = cc free.0

pub chain_weaker : (P Q : Mark → Type 0) (follows : Mark → Mark → Type 0) (steps : List Step)
    → ((m : Mark) → Q m → P m) → Chain Q follows steps → Chain P follows steps
chain_weaker P Q follows [] f h = tt
chain_weaker P Q follows (s ∷ steps) f h = (f s.found h.0, h.1)

pub chain_then : (P Q : Mark → Type 0) (follows : Mark → Mark → Type 0) (steps others : List Step)
    → Chain P follows steps → ((m : Mark) → Q m → Next P follows steps m) → Chain Q follows others → Chain P follows (steps ++ others)
chain_then P Q follows [] others h f k = chain_weaker P Q follows others f k
chain_then P Q follows (s ∷ steps) others h f k = (h.0, chain_then (follows s.left) Q follows steps others h.1 f k)

pub next_weaker : (P Q : Mark → Type 0) (follows : Mark → Mark → Type 0) (steps : List Step) (m : Mark)
    → ((m : Mark) → Q m → P m) → Next Q follows steps m → Next P follows steps m
next_weaker P Q follows [] m f h = f m h
next_weaker P Q follows (s ∷ steps) m f h = h

pub next_then : (P Q : Mark → Type 0) (follows : Mark → Mark → Type 0) (steps others : List Step) (m : Mark)
    → ((m : Mark) → Q m → Next P follows steps m) → Next Q follows others m → Next P follows (steps ++ others) m
next_then P Q follows [] others m f h = next_weaker P Q follows others m f h
next_then P Q follows (s ∷ steps) others m f h = next_then (follows s.left) Q follows steps others m f h

pub each_then : (tells : Bool) (number number' : ℕ) (es fs : List Exchange) → number' ≡ number + length es
    → EachIs tells number es → EachIs tells number' fs → EachIs tells number (es ++ fs)
each_then tells number number' [] fs e h k = subst (λ (n : ℕ). EachIs tells n fs) (let same : number' ≡ number = omega (arith, e) in same) k
each_then tells number number' (x ∷ es) fs e h k =
    (h.0, each_then tells (number + 1) number' es fs (omega (arith, e)) h.1 k)

pub counts_then : (from middle to : ClockState) (es fs : List Exchange) → Counts from es middle → Counts middle fs to → Counts from (es ++ fs) to
counts_then from middle to [] fs h k = subst (λ (n : ClockState). Counts n fs to) h k
counts_then from middle to (e ∷ es) fs h k = (h.0, counts_then e.clock_after middle to es fs h.1 k)

pub open_then : (asks others : List Asked) → AreOpen asks → AreOpen others → AreOpen (asks ++ others)
open_then [] others h k = k
open_then (a ∷ asks) others h k = (h.0, open_then asks others h.1 k)

pub asked_in_then : (es fs : List Exchange) → asked_in (es ++ fs) ≡ asked_in es ++ asked_in fs
asked_in_then es fs = map-append (λ (e : Exchange). e.asked) es fs

pub steps_in_then : (es fs : List Exchange) → steps_in (es ++ fs) ≡ steps_in es ++ steps_in fs
steps_in_then es fs = flat_map-append (λ (e : Exchange). e.steps) es fs

pub text_then : (es fs : List Exchange) → text_of (es ++ fs) ≡ text_of es ++ text_of fs
text_then es fs = flat_map-append (λ (e : Exchange). answer_bytes e.answer) es fs

pub all_open_then : (es fs : List Exchange) → AllOpen es → AllOpen fs → AllOpen (es ++ fs)
all_open_then es fs h k = subst AreOpen (sym (asked_in_then es fs)) (open_then _ _ h k)

pub ends_in_then : (es fs : List Exchange) (P : Asked → Type 0) → AllOpen es → EndsIn fs P → EndsIn (es ++ fs) P
ends_in_then es fs P h k = record {
  front = es ++ k.front;
  final = k.final;
  is = ap (λ (xs : List Exchange). es ++ xs) k.is ∙ sym (append_assoc es k.front (k.final ∷ []));
  open_front = all_open_then es k.front h k.open_front;
  how = k.how;
}

-- what stands before the last answer of both stands before that of the second, or in the first
before_then : (es fs : List Exchange) → length_before (es ++ fs) ≤ length (text_of es) + length_before fs
before_then [] fs = omega arith
before_then (e ∷ []) [] = omega arith
before_then (e ∷ []) (f ∷ fs) = omega (arith, length-append (answer_bytes e.answer) [])
before_then (e ∷ d ∷ es) fs = omega (arith, before_then (d ∷ es) fs, length-append (answer_bytes e.answer) (text_of (d ∷ es)))

take_past : (xs ys : List ℕ) (n : ℕ) → take (length xs + n) (xs ++ ys) ≡ xs ++ take n ys
take_past [] ys n = ap (λ (k : ℕ). take k ys) (omega arith)
take_past (x ∷ xs) ys n = ap (λ (k : ℕ). take k (x ∷ (xs ++ ys))) (let e : length (x ∷ xs) + n ≡ suc (length xs + n) = omega arith in e) ∙ ap (λ (zs : List ℕ). x ∷ zs) (take_past xs ys n)

pub writes_then : (es fs : List Exchange) (taken taken' taken'' : Option (List ℕ)) (how : Option SessionEnd)
    → Appends taken taken' (text_of es) → Writes fs taken' taken'' how → Writes (es ++ fs) taken taken'' how
writes_then es fs taken taken' taken'' (Some end.WriteFault) h k = (
  length (text_of es) + k.0,
  omega (arith, before_then es fs, k.1),
  rw text_then (omega (arith, length-append (text_of es) (text_of fs), k.2)),
  rw (text_then, take_past) (Appends-trans _ _ _ _ _ h k.3),
)
writes_then es fs taken taken' taken'' None h k = rw text_then (Appends-trans _ _ _ _ _ h k)
writes_then es fs taken taken' taken'' (Some end.Ended) h k = rw text_then (Appends-trans _ _ _ _ _ h k)
writes_then es fs taken taken' taken'' (Some end.CutShort) h k = rw text_then (Appends-trans _ _ _ _ _ h k)
writes_then es fs taken taken' taken'' (Some end.HeadRefused) h k = rw text_then (Appends-trans _ _ _ _ _ h k)
writes_then es fs taken taken' taken'' (Some end.TurnsSpent) h k = rw text_then (Appends-trans _ _ _ _ _ h k)
writes_then es fs taken taken' taken'' (Some end.ReadFault) h k = rw text_then (Appends-trans _ _ _ _ _ h k)
writes_then es fs taken taken' taken'' (Some end.OutOfMemory) h k = rw text_then (Appends-trans _ _ _ _ _ h k)

pub ends_then : (number number' number'' : ℕ) (es fs : List Exchange) (rest held : List ℕ) (left : Option (List ℕ)) (how : Option SessionEnd)
    → AllOpen es → number' ≡ number + length es → Ends number' number'' fs rest held left how → Ends number number'' (es ++ fs) rest held left how
ends_then number number' number'' es fs rest held left None h e k =
    (all_open_then es fs h k.0, k.1, omega (arith, length-append es fs, e, k.2))
ends_then number number' number'' es fs rest held left (Some end.Ended) h e (inl k) = inl (all_open_then es fs h k.0, k.1, k.2)
ends_then number number' number'' es fs rest held left (Some end.Ended) h e (inr k) = inr (ends_in_then es fs _ h k)
ends_then number number' number'' es fs rest held left (Some end.CutShort) h e k = (all_open_then es fs h k.0, k.1, k.2)
ends_then number number' number'' es fs rest held left (Some end.HeadRefused) h e k = ends_in_then es fs _ h k
ends_then number number' number'' es fs rest held left (Some end.TurnsSpent) h e k =
    (all_open_then es fs h k.0, omega (arith, length-append es fs, e, k.1))
ends_then number number' number'' es fs rest held left (Some end.ReadFault) h e k = all_open_then es fs h k
ends_then number number' number'' es fs rest held left (Some end.WriteFault) h e k = ends_in_then es fs _ h k
ends_then number number' number'' es fs rest held left (Some end.OutOfMemory) h e k = all_open_then es fs h k

latest_weaker : (P Q : Mark → Mark → Type 0) (steps : List Step) → ((f l : Mark) → P f l → Q f l) → LatestIs P steps → LatestIs Q steps
latest_weaker P Q [] k h = tt
latest_weaker P Q (s ∷ []) k h = k _ _ h
latest_weaker P Q (s ∷ t ∷ steps) k h = latest_weaker P Q (t ∷ steps) k h

latest_behind : (P : Mark → Mark → Type 0) (steps : List Step) (t : Step) (others : List Step) → LatestIs P (t ∷ others) → LatestIs P (steps ++ t ∷ others)
latest_behind P [] t others h = h
latest_behind P (s ∷ []) t others h = h
latest_behind P (s ∷ r ∷ steps) t others h = latest_behind P (r ∷ steps) t others h

-- steps behind others, of which there are some
latest_past : (P : Mark → Mark → Type 0) (steps own more : List Step) (size : ℕ) → LeavesSize own size → LatestIs P (own ++ more) → LatestIs P (steps ++ (own ++ more))
latest_past P steps [] more size leaves h = absurd leaves
latest_past P steps (t ∷ own) more size leaves h = latest_behind P steps t (own ++ more) h

pub latest_then : (tells : Bool) (number : ℕ) (P Q : Mark → Mark → Type 0) (es fs : List Exchange) → EachIs tells number fs
    → LatestIs P (steps_in es) → (fs ≡ [] → (f l : Mark) → P f l → Q f l) → LatestIs Q (steps_in fs) → LatestIs Q (steps_in es ++ steps_in fs)
latest_then tells number P Q es [] each h k g = rw append-nil (latest_weaker P Q (steps_in es) (k refl) h)
latest_then tells number P Q es (f ∷ fs) each h k g = latest_past Q (steps_in es) f.steps (steps_in fs) f.answer.size each.0.size g

pub untouched_then : (P Q R : Mark → Mark → Type 0) (es fs : List Exchange) → (es ≡ [] → (f l : Mark) → P f l → Q f l) → (fs ≡ [] → (f l : Mark) → Q f l → R f l)
    → es ++ fs ≡ [] → (f l : Mark) → P f l → R f l
untouched_then P Q R [] fs h k e f l x = k e f l (h refl f l x)
untouched_then P Q R (d ∷ es) fs h k e f l x = cc e

-- what goes on, and then some more
pub served_then : {tells : Bool} {follows : Mark → Mark → Type 0} {number number' number'' : ℕ} {b b' b'' : Mark → Type 0} {p p' p'' : Mark → Mark → Type 0}
    {held held' held'' : List ℕ} {left left' left'' taken taken' taken'' : Option (List ℕ)} {clock clock' clock'' : ClockState} {how : Option SessionEnd}
    → Served tells follows number number' b b' p p' held held' left left' taken taken' clock clock' None
    → Served tells follows number' number'' b' b'' p' p'' held' held'' left' left'' taken' taken'' clock' clock'' how
    → Served tells follows number number'' b b'' p p'' held held'' left left'' taken taken'' clock clock'' how
served_then {tells} {follows} {number} {number'} {number''} {b} {b'} {b''} {p} {p'} {p''} {held} {held'} {held''} {left} {left'} {left''} {taken} {taken'} {taken''} {clock} {clock'} {clock''} {how} x y =
    record {
      es = x.es ++ y.es;
      bytes = x.bytes ++ y.bytes;
      rest = y.rest;
      read = Consumes-trans _ _ _ _ _ x.read y.read;
      asked = rw (asked_in_then, ← append_assoc)
          (asked_then _ _ x.rest y.bytes _ y.rest x.ends.0 x.asked (subst (λ (xs : List ℕ). ReadsAsked (xs ++ y.bytes) (asked_in y.es) y.rest) x.ends.1 y.asked));
      each = each_then tells number number' x.es y.es x.ends.2 x.each y.each;
      chain = rw steps_in_then (chain_then b b' follows _ _ x.chain x.next y.chain);
      next = λ m h. rw steps_in_then (next_then b b' follows (steps_in x.es) (steps_in y.es) m x.next (y.next m h));
      latest = rw steps_in_then (latest_then tells number' p' p'' x.es y.es y.each x.latest y.untouched y.latest);
      untouched = untouched_then p p' p'' x.es y.es x.untouched y.untouched;
      clock_is = counts_then clock clock' clock'' x.es y.es x.clock_is y.clock_is;
      written = writes_then x.es y.es taken taken' taken'' how x.written y.written;
      ends = ends_then number number' number'' x.es y.es y.rest held'' left'' how x.ends.0 x.ends.2 y.ends;
    }
