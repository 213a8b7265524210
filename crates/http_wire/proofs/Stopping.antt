-- What a call that gives no request says.
use Rattle.std.proofs.Common.{◌≡◌, ℕ, ◌+◌, ◌-◌, ◌<◌, ◌≤◌, ◌⊎◌, inl, inr, min, List, [], ◌∷◌, ◌++◌, length, take, drop, Bool, true, false, Option, Some, None, Result, Ok, Err, refl, sym, ap, ◌∙◌, subst, arith, append_assoc, append-nil, length-append, length-take, length-drop, take-append-drop, OnErr, if◌then◌else◌, nat_lt, codes, slice_range}
use Rattle.std.proofs.lemmas.List.{take_all, drop_all, drop-drop}
use Rattle.std.specs.Io.KnownBytes.{Consumes}
use Rattle.std.proofs.KnownBytes.{Consumes-trans}
use Rattle.httparse.specs.Grammar.{RequestHead}
use Rattle.httparse.specs.declared.spans.HeaderSpan.{HeaderSpan}
use Rattle.httparse.specs.declared.spans.RequestSpans.{RequestSpans}
use Rattle.httparse.specs.Spans.{IsRequestAt}
use Rattle.http_wire.specs.declared.request.HeadFault.{HeadFault}
use Rattle.http_wire.specs.declared.request.HeadFault.TheVariants.{BadHead, NoLength, TooLarge, HeadTooLong}
use Rattle.http_wire.specs.declared.request.Stop.{Stop}
use Rattle.http_wire.specs.declared.request.Stop.TheVariants as stop
use Rattle.http_wire.specs.Heads.{IsHead, Unfinished, framed, body_length, pairs_of, length_in, values_of, is_some_value, is_post}
use Rattle.http_wire.specs.Requests.{IsRequest, request_of, FaultByFields, IsHeadFault, LacksBody, EndsInside}
use Rattle.http_wire.specs.Parts.{ReadsParts, TakesBody, TakesRequest}
use Rattle.http_wire.specs.Taking.{Gathers, Stops, Gives, Takes, Fails, FillsShort, next_of}
use Rattle.http_wire.proofs.Heads.{found_head}

pub on_err : {T E P : Type 0} (r : Result T E) → P → OnErr r P
on_err (Ok x) p = tt
on_err (Err e) p = p

pub fails_at : {old new : List ℕ} {left left' : Option (List ℕ)} {why : Stop} → Gathers old new left left' → Stops new left' why → Fails old left left' why
fails_at {left'} {why} g s = record {
  bytes = g.bytes;
  taken = g.taken;
  stops = subst (λ (xs : List ℕ). Stops xs left' why) g.held s;
}

pub gathers_then : {old mid new : List ℕ} {a b c : Option (List ℕ)} → Gathers old mid a b → Gathers mid new b c → Gathers old new a c
gathers_then {old} {mid} {new} {a} {b} {c} g h = record {
  bytes = g.bytes ++ h.bytes;
  taken = Consumes-trans a b c g.bytes h.bytes g.taken h.taken;
  held = h.held ∙ ap (λ (xs : List ℕ). xs ++ h.bytes) g.held ∙ append_assoc old g.bytes h.bytes;
}

-- bytes that were lost
pub fails_lost : (old : List ℕ) (left mid left' : Option (List ℕ)) (bytes got : List ℕ) (why : Stop)
    → (why ≡ stop.ReadFault) ⊎ (why ≡ stop.OutOfMemory) → Consumes left mid bytes → Consumes mid left' got → Fails old left left' why
fails_lost old left mid left' bytes got why (inl e) h k =
    rw e (record { bytes = bytes ++ got; taken = Consumes-trans left mid left' bytes got h k; stops = tt })
fails_lost old left mid left' bytes got why (inr e) h k =
    rw e (record { bytes = bytes ++ got; taken = Consumes-trans left mid left' bytes got h k; stops = tt })

pub too_long : (bytes : List ℕ) → length bytes ≡ 8192 → Unfinished bytes → IsHeadFault bytes HeadTooLong false
too_long bytes e h = (refl, omega arith, subst Unfinished (sym (take_all 8192 bytes (omega arith))) h)

-- the body is what is held of it and what was read, and the rest stays
pub body_whole : (xs got : List ℕ) (size : ℕ) → length (take (min size (length xs)) xs ++ got) ≡ size
    → xs ++ got ≡ (take (min size (length xs)) xs ++ got) ++ drop (min size (length xs)) xs
body_whole xs [] size e =
    append-nil xs ∙ sym (take-append-drop (min size (length xs)) xs) ∙ ap (λ (ys : List ℕ). ys ++ drop (min size (length xs)) xs) (sym (append-nil (take (min size (length xs)) xs)))
body_whole xs (g ∷ gs) size e =
    let all : length xs ≤ min size (length xs) =
    omega (arith, length-append (take (min size (length xs)) xs) (g ∷ gs), length-take (min size (length xs)) xs) in
    rw (take_all (min size (length xs)) xs all, drop_all (min size (length xs)) xs all, append-nil) refl

framed_not_long : (length : Option (Option ℕ)) (coded posts : Bool) → framed length coded posts ≡ Err HeadTooLong → ⊥
framed_not_long None coded posts e = cc e
framed_not_long (Some None) true posts e = cc e
framed_not_long (Some None) false true e = cc e
framed_not_long (Some None) false false e = cc e
framed_not_long (Some (Some n)) true posts e = cc e
framed_not_long (Some (Some n)) false posts e = large (nat_lt 4194304 n) e
  where
    large : (test : Bool) → (if test then Err TooLarge else Ok n) ≡ Err HeadTooLong → ⊥
    large true e = cc e
    large false e = cc e

by_fields : (bytes : List ℕ) (fault : HeadFault) (of_head : Bool) → FaultByFields bytes fault of_head → IsHeadFault bytes fault of_head
by_fields bytes BadHead of_head f = inr f
by_fields bytes NoLength of_head f = f
by_fields bytes TooLarge of_head f = f
by_fields bytes HeadTooLong of_head f = absurd (framed_not_long (length_in (values_of (codes "content-length") (pairs_of f.head))) (is_some_value (values_of (codes "transfer-encoding") (pairs_of f.head))) (is_post f.head.method) f.why)

-- the head was read whole, and its fields or its memory stop the call
pub stops_at_parts : (buf : List ℕ) (headers : List HeaderSpan) (r : RequestSpans) (h : RequestHead) (left : Option (List ℕ)) (why : Stop)
    → length headers ≡ 32 → length buf ≤ 8192 → r.len ≤ length buf → IsRequestAt buf headers r h → ReadsParts h (Err why) → Stops buf left why
stops_at_parts buf headers r h left (stop.Refused fault of_head) room short within at p =
    by_fields buf fault of_head (record {
      head = h;
      rest = drop r.len buf ++ [];
      reads = subst (λ (xs : List ℕ). IsHead xs h (drop r.len buf ++ [])) (append-nil buf) (found_head buf headers r h [] room short within at);
      why = p.0;
      method = p.1;
    })
stops_at_parts buf headers r h left stop.OutOfMemory room short within at p = tt
stops_at_parts buf headers r h left stop.Ended room short within at p = elim p [ ]
stops_at_parts buf headers r h left stop.CutShort room short within at p = elim p [ ]
stops_at_parts buf headers r h left stop.ReadFault room short within at p = elim p [ ]

-- the input ended inside the body
pub stops_in_body : (buf bytes : List ℕ) (headers : List HeaderSpan) (r : RequestSpans) (h : RequestHead) (size : ℕ)
    → length headers ≡ 32 → length buf ≤ 8192 → r.len ≤ length buf → IsRequestAt buf headers r h
    → body_length h.method (pairs_of h) ≡ Ok size → length (drop r.len buf ++ bytes) < size → LacksBody (buf ++ bytes)
stops_in_body buf bytes headers r h size room short within at wants less = record {
  head = h;
  rest = drop r.len buf ++ bytes;
  size = size;
  reads = found_head buf headers r h bytes room short within at;
  wants = wants;
  short = less;
}

pub request_found : (buf bytes body held : List ℕ) (headers : List HeaderSpan) (r : RequestSpans) (h : RequestHead)
    → length headers ≡ 32 → length buf ≤ 8192 → r.len ≤ length buf → IsRequestAt buf headers r h
    → body_length h.method (pairs_of h) ≡ Ok (length body) → drop r.len buf ++ bytes ≡ body ++ held
    → IsRequest (buf ++ bytes) (request_of h body) held
request_found buf bytes body held headers r h room short within at wants whole = record {
  head = h;
  body = body;
  reads = subst (IsHead (buf ++ bytes) h) whole (found_head buf headers r h bytes room short within at);
  whole = wants;
  is = refl;
}

pub gives_of : (bytes : List ℕ) (left : Option (List ℕ)) (held : List ℕ) (why : Stop) → Stops bytes left why → Gives bytes left (next_of why) held
gives_of bytes left held stop.Ended h = h
gives_of bytes left held stop.CutShort h = h
gives_of bytes left held (stop.Refused fault of_head) h = h
gives_of bytes left held stop.ReadFault h = h
gives_of bytes left held stop.OutOfMemory h = h

-- the same as the call has it
pub body_taken : (held body got rest all : List ℕ) (start size have : ℕ) → start ≤ length held → have ≡ min size (length held - start)
    → body ≡ slice_range held start (start + have) → rest ≡ drop (start + have) held → all ≡ body ++ got → length all ≡ size
    → drop start held ++ got ≡ all ++ rest
body_taken held body got rest all start size have within is body_is rest_is all_is whole =
    let xs : List ℕ = drop start held in
    let have_is : have ≡ min size (length xs) = rw (length-drop start held) is in
    let taken : body ≡ take (min size (length xs)) xs = body_is ∙ ap (λ (n : ℕ). take n xs) (let e : (start + have) - start ≡ have = omega arith in e ∙ have_is) in
    let behind : rest ≡ drop (min size (length xs)) xs = rest_is ∙ sym (drop-drop have start held) ∙ ap (λ (n : ℕ). drop n xs) have_is in
    let all_taken : all ≡ take (min size (length xs)) xs ++ got = all_is ∙ ap (λ (ys : List ℕ). ys ++ got) taken in
    let sized : length (take (min size (length xs)) xs ++ got) ≡ size = sym (ap length all_taken) ∙ whole in
    rw (all_taken, behind) (body_whole xs got size sized)

-- a body that isn't whole, and what else may come while it is read
pub fails_in_body : (old buf : List ℕ) (left mid left' : Option (List ℕ)) (headers : List HeaderSpan) (r : RequestSpans) (h : RequestHead) (size : ℕ) (why : Stop)
    → Gathers old buf left mid → length headers ≡ 32 → length buf ≤ 8192 → r.len ≤ length buf → IsRequestAt buf headers r h
    → body_length h.method (pairs_of h) ≡ Ok size
    → ((why ≡ stop.CutShort) × FillsShort (drop r.len buf) size mid left') ⊎ (((why ≡ stop.ReadFault) ⊎ (why ≡ stop.OutOfMemory)) × ((got : List ℕ) × Consumes mid left' got))
    → Fails old left left' why
fails_in_body old buf left mid left' headers r h size why g room short within at wants (inl (e, f)) =
    rw e (record {
      bytes = g.bytes ++ f.bytes;
      taken = Consumes-trans left mid left' g.bytes f.bytes g.taken f.taken;
      stops = (
        subst EndsInside (ap (λ (xs : List ℕ). xs ++ f.bytes) g.held ∙ append_assoc old g.bytes f.bytes)
            (inr (stops_in_body buf f.bytes headers r h size room short within at wants f.short)),
        f.end,
      );
    })
fails_in_body old buf left mid left' headers r h size why g room short within at wants (inr (e, got)) =
    fails_lost old left mid left' g.bytes got.0 why e g.taken got.1

pub takes_request : (old buf held : List ℕ) (left mid left' : Option (List ℕ)) (headers : List HeaderSpan) (r : RequestSpans) (h : RequestHead) (body : List ℕ) (size : ℕ)
    → Gathers old buf left mid → length headers ≡ 32 → length buf ≤ 8192 → r.len ≤ length buf → IsRequestAt buf headers r h
    → body_length h.method (pairs_of h) ≡ Ok size → TakesBody (drop r.len buf) size mid left' body held
    → TakesRequest old left left' (request_of h body) held
takes_request old buf held left mid left' headers r h body size g room short within at wants t = record {
  bytes = g.bytes ++ t.bytes;
  taken = Consumes-trans left mid left' g.bytes t.bytes g.taken t.taken;
  request =
      subst (λ (xs : List ℕ). IsRequest xs (request_of h body) held) (ap (λ (xs : List ℕ). xs ++ t.bytes) g.held ∙ append_assoc old g.bytes t.bytes)
      (request_found buf t.bytes body held headers r h room short within at (wants ∙ ap (λ (n : ℕ). Ok n) (sym t.size_is)) t.whole);
}

pub takes_of : (old : List ℕ) (left left' : Option (List ℕ)) (held : List ℕ) (why : Stop) → Fails old left left' why → Takes old left left' (next_of why) held
takes_of old left left' held why f = record { bytes = f.bytes; taken = f.taken; gives = gives_of _ left' held why f.stops }
