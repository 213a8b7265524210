-- Containers under work, one inside the other.
use Rattle.std.proofs.Common.{◌≡◌, ◌≢◌, ℕ, ◌-◌, ◌+◌, ◌<◌, ◌≤◌, List, [], ◌∷◌, ◌++◌, length, take, drop, reverse, Ok, Err, refl, sym, ap, subst, ◌∙◌, arith, append_assoc}
use Rattle.std.proofs.lemmas.List.{append-nil, length-append, length-drop, drop-append-le, drop-drop, reverse-append, length-reverse}
use Rattle.cbor_core.specs.declared.words.Grammar.{Grammar}
use Rattle.cbor_core.specs.declared.words.Why.{Why}
use Rattle.cbor_core.specs.declared.words.Why.TheVariants.{Truncated}
use Rattle.cbor_core.specs.declared.words.Fault.{Fault}
use Rattle.cbor_core.specs.declared.heads.Stop.{Stop}
use Rattle.cbor_core.specs.declared.tree.Item.{Item}
use Rattle.cbor_core.specs.Limits.{most_containers}
use Rattle.cbor_core.specs.Bytes.{IsBytes}
use Rattle.cbor_core.specs.Reading.{and_then, front_of, read_in, KeyStands}
use Rattle.cbor_core.specs.Order.{KeySpelled, ReadIsSpelled}
use Rattle.cbor_core.proofs.StepLemmas.{IsBytes-after}
use Rattle.cbor_core.proofs.KeyLemmas.{key_stands}
use Rattle.cbor_feed.specs.declared.containers.Container.{Container}
use Rattle.cbor_feed.specs.declared.frames.Frame.{Frame}
use Rattle.cbor_feed.specs.declared.frames.Parts.{Parts}
use Rattle.cbor_feed.specs.declared.frames.Parts.TheVariants.{Items, Key, Value, Tag}
use Rattle.cbor_feed.specs.declared.frames.Step.{Step}
use Rattle.cbor_feed.specs.declared.frames.Step.TheVariants.{Goes, Whole, Stuck}
use Rattle.cbor_feed.specs.declared.walk.Walked.{Walked}
use Rattle.cbor_feed.specs.declared.walk.Walked.TheVariants.{Cut, Whole as WalkedWhole, Stuck as WalkedStuck}
use Rattle.cbor_feed.specs.Frames.{span_in, AreIn, IsFreshIn, taken}
use Rattle.cbor_feed.specs.Parts.{IsWhole, IsOpening}
use Rattle.cbor_feed.specs.Containers.{read_container}
use Rattle.cbor_feed.specs.Chains.{opened_parts, handed, room_of, start_of, HasRisen, IsLevel, Chain, IsRead, IsStuck, IsCut, IsStopped, HasWalked}
use Rattle.cbor_feed.proofs.HandSteps.{span-more, front-span, opened-parts, opened-in, opened-risen, Says, parts-say, parts-fresh}
use Rattle.std.proofs.lemmas.List.{take-append-drop}

-- ---- the innermost stands first

pub last-first : (frames : List Frame) (frame : Frame) → reverse (frames ++ frame ∷ []) ≡ frame ∷ reverse frames
last-first frames frame = reverse-append frames (frame ∷ [])

room_left : (frames : List Frame) → room_of frames ≡ most_containers - length frames
room_left [] = refl
room_left (frame ∷ outer) = let e : room_of outer ≡ most_containers - length outer = room_left outer in omega arith

pub room-is : (frames : List Frame) → room_of (reverse frames) ≡ 16 - length frames
room-is frames = room_left (reverse frames) ∙ ap (λ (n : ℕ). most_containers - n) (length-reverse frames)

-- ---- more bytes

in_more : (parts : Parts) (held more : List ℕ) → AreIn parts held → AreIn parts (held ++ more)
in_more (Items left items) held more is = tt
in_more (Key left pairs last) held more is = (is.0, omega (arith, length-append held more, is.1))
in_more (Value left pairs text) held more is = (is.0, omega (arith, length-append held more, is.1))
in_more (Tag n) held more is = tt

risen_more : (g : Grammar) (room : ℕ) (parts : Parts) (held more : List ℕ) → AreIn parts held → HasRisen g room parts held → HasRisen g room parts (held ++ more)
risen_more g room (Items left items) held more is risen = tt
risen_more g room (Key left pairs last) held more is risen = rw (span-more held more last is) risen
risen_more g room (Value left (pairs, key) text) held more is risen = rw (span-more held more text is) risen
risen_more g room (Tag n) held more is risen = tt

level_more : (g : Grammar) (room begin : ℕ) (frame : Frame) (held more : List ℕ) → IsLevel g room begin frame held → IsLevel g room begin frame (held ++ more)
level_more g room begin frame held more l = record {
  room_left = l.room_left;
  order = l.order;
  start = (let s : frame.start ≤ length held = l.start in omega (arith, length-append held more));
  spans = in_more frame.parts held more l.spans;
  risen = risen_more g (room - 1) frame.parts held more l.spans l.risen;
  reads = λ after. subst (λ (all : List ℕ). read_in g room (drop begin all) ≡ and_then (read_in g (room - 1) (drop frame.start all)) (handed g (read_in g (room - 1)) frame.parts all frame.start)) (sym (append_assoc held more after)) (l.reads (more ++ after));
}

pub chain-more : (g : Grammar) (frames : List Frame) (held more : List ℕ) → Chain g frames held → Chain g frames (held ++ more)
chain-more g [] held more c = tt
chain-more g (frame ∷ outer) held more c = (level_more g (room_of outer) (start_of outer) frame held more c.0, chain-more g outer held more c.1)

-- ---- a fault inside is the fault of the whole

level_here : (g : Grammar) (room begin : ℕ) (frame : Frame) (held : List ℕ) → IsLevel g room begin frame held
    → read_in g room (drop begin held) ≡ and_then (read_in g (room - 1) (drop frame.start held)) (handed g (read_in g (room - 1)) frame.parts held frame.start)
level_here g room begin frame held l = subst (λ (all : List ℕ). read_in g room (drop begin all) ≡ and_then (read_in g (room - 1) (drop frame.start all)) (handed g (read_in g (room - 1)) frame.parts all frame.start)) (append-nil held) (l.reads [])

pub chain-stop : (g : Grammar) (frames : List Frame) (held : List ℕ) (stop : Stop) → Chain g frames held → read_in g (room_of frames) (drop (start_of frames) held) ≡ Err stop → read_in g most_containers held ≡ Err stop
chain-stop g [] held stop c e = e
chain-stop g (frame ∷ outer) held stop c e =
    chain-stop g outer held stop c.1 (level_here g (room_of outer) (start_of outer) frame held c.0
    ∙ ap (λ r. and_then r (handed g (read_in g (room_of outer - 1)) frame.parts held frame.start)) e)

stuck_there : (g : Grammar) (frames : List Frame) (held : List ℕ) (at : ℕ) (why : Why) → Chain g frames held → start_of frames ≡ at → at ≤ length held → why ≢ Truncated
    → read_in g (room_of frames) (drop at held) ≡ Err (record { left = length (drop at held); why = why }) → IsStuck g held (record { at = at; why = why })
stuck_there g frames held at why c start within other e = record {
  within = within;
  other = other;
  reads = chain-stop g frames held (record { left = length held - at; why = why }) c (
      ap (λ (n : ℕ). read_in g (room_of frames) (drop n held)) start ∙ e ∙ ap (λ (n : ℕ). Err (record { left = n; why = why })) (length-drop at held));
}

-- ---- the next part

read_here : (g : Grammar) (frames : List Frame) (held : List ℕ) (item : Item) (end : ℕ) → IsRead g frames held item end → read_in g (room_of frames) (drop (start_of frames) held) ≡ Ok (item, drop end held)
read_here g frames held item end r = subst (λ (all : List ℕ). read_in g (room_of frames) (drop (start_of frames) all) ≡ Ok (item, drop end all)) (append-nil held) (r.reads [])

bytes_behind : (held : List ℕ) (n : ℕ) → IsBytes held → IsBytes (drop n held)
bytes_behind held n fits = IsBytes-after held (take n held) (drop n held) fits (sym (take-append-drop n held))

-- what the next part is has a shortest spelling
pub part-spelled : ReadIsSpelled → (g : Grammar) (frames : List Frame) (held : List ℕ) (item : Item) (end : ℕ) → IsBytes held → IsRead g frames held item end → KeySpelled g (room_of frames) item
part-spelled read_is_spelled g frames held item end fits r =
    read_is_spelled g (room_of frames) (drop (start_of frames) held) item (drop end held) (bytes_behind held (start_of frames) fits) (read_here g frames held item end r)

module _ (g : Grammar) (frame : Frame) (outer : List Frame) (held : List ℕ) (item : Item) (end : ℕ) (fits : IsBytes held) (c : Chain g (frame ∷ outer) held) (r : IsRead g (frame ∷ outer) held item end) where
  stands : KeyStands g (room_of outer - 1) item (span_in held (record { from = frame.start; to = end }))
  stands =
      let front : front_of (drop frame.start held) (drop end held) ≡ span_in held (record { from = frame.start; to = end }) = front-span held frame.start end r.from r.to in
      subst (λ (t : List ℕ). KeyStands g (room_of outer - 1) item t) front (key_stands g (room_of outer - 1) (drop frame.start held) item (drop end held) (bytes_behind held frame.start fits) (read_here g (frame ∷ outer) held item end r))

  pub frame-fresh : IsFreshIn g held frame item end
  frame-fresh = parts-fresh g (room_of outer - 1) held frame.start item end r.from r.to frame.parts c.0.risen stands

  says : Says g (room_of outer - 1) frame.parts held frame.start item end (taken g held frame item end)
  says = parts-say g (room_of outer - 1) held frame.start item end r.from r.to frame.parts c.0.spans c.0.risen stands

  abbrev room : ℕ
  room = room_of outer - 1

  reads_on : (more : List ℕ) → read_in g (room_of outer) (drop (start_of outer) (held ++ more)) ≡ handed g (read_in g room) frame.parts (held ++ more) frame.start (item, drop end (held ++ more))
  reads_on more = c.0.reads more ∙ ap (λ r. and_then r (handed g (read_in g room) frame.parts (held ++ more) frame.start)) (r.reads more)

  pub frame-goes : (next : Frame) → taken g held frame item end ≡ Goes next → (start_of (next ∷ outer) ≡ end) × Chain g (next ∷ outer) held
  frame-goes next e =
      let s = subst (λ (step : Step). Says g room frame.parts held frame.start item end step) e says in (
        s.0,
        (
          record {
            room_left = c.0.room_left;
            order = (let before : start_of outer ≤ frame.start = c.0.order in let from : frame.start ≤ end = r.from in omega (arith, s.0));
            start = (let to : end ≤ length held = r.to in omega (arith, s.0));
            spans = s.1;
            risen = s.2;
            reads = λ more. reads_on more ∙ s.3 more;
          },
          c.1,
        ),
      )

  pub frame-whole : (whole : Item) → taken g held frame item end ≡ Whole whole → IsRead g outer held whole end
  frame-whole whole e =
      let s = subst (λ (step : Step). Says g room frame.parts held frame.start item end step) e says in
      let before : start_of outer ≤ frame.start = c.0.order in
      let from : frame.start ≤ end = r.from in
      record { from = omega arith; to = r.to; reads = λ more. reads_on more ∙ s more }

  pub frame-stuck : (why : Why) → taken g held frame item end ≡ Stuck why → IsStuck g held (record { at = frame.start; why = why })
  frame-stuck why e =
      let s = subst (λ (step : Step). Says g room frame.parts held frame.start item end step) e says in
      let here : read_in g (room_of outer) (drop (start_of outer) held) ≡ Err (record { left = length (drop frame.start held); why = why }) =
      level_here g (room_of outer) (start_of outer) frame held c.0 ∙ ap (λ r. and_then r (handed g (read_in g room) frame.parts held frame.start)) (read_here g (frame ∷ outer) held item end r) ∙ s.1 in
      record {
        within = (c.0).start;
        other = s.0;
        reads = chain-stop g outer held (record { left = length held - frame.start; why = why }) c.1 (here ∙ ap (λ (n : ℕ). Err (record { left = n; why = why })) (length-drop frame.start held));
      }

-- ---- what stands where the next part begins

ends_there : (held more : List ℕ) (at len : ℕ) → at ≤ length held → len ≤ length (drop at held) → drop len (drop at held) ++ more ≡ drop (at + len) (held ++ more)
ends_there held more at len within le =
    let all : at + len ≤ length held = omega (arith, length-drop at held) in
    ap (λ (l : List ℕ). l ++ more) (drop-drop len at held) ∙ sym (drop-append-le (at + len) held more all)

pub item-read : (g : Grammar) (frames : List Frame) (held : List ℕ) (at room : ℕ) (item : Item) (len : ℕ) → start_of frames ≡ at → at ≤ length held → room ≡ room_of frames → IsWhole g room (drop at held) item len → IsRead g frames held item (at + len)
item-read g frames held at room item len start within is w =
    let le : len ≤ length (drop at held) = w.within in
    record {
      from = (let s : start_of frames ≡ at = start in omega arith);
      to = omega (arith, length-drop at held);
      reads = λ more. ap (λ (n : ℕ). read_in g (room_of frames) (drop n (held ++ more))) start
          ∙ ap (λ (b : List ℕ). read_in g (room_of frames) b) (drop-append-le at held more within)
          ∙ ap (λ (n : ℕ). read_in g n (drop at held ++ more)) (sym is)
          ∙ w.reads more
          ∙ ap (λ (b : List ℕ). Ok (item, b)) (ends_there held more at len within le);
    }

pub chain-opened : (g : Grammar) (frames : List Frame) (held : List ℕ) (at room : ℕ) (k : Container) (len : ℕ) → Chain g frames held → start_of frames ≡ at → at ≤ length held → room ≡ room_of frames → IsOpening g room (drop at held) k len
    → Chain g (record { start = at + len; parts = opened_parts k } ∷ frames) held
chain-opened g frames held at room k len c start within is o =
    let le : len ≤ length (drop at held) = o.within in
    let left : 0 < room = o.room_left in (
      record {
        room_left = subst (λ (n : ℕ). 0 < n) is left;
        order = omega arith;
        start = omega (arith, length-drop at held);
        spans = opened-in k held;
        risen = opened-risen g (room_of frames - 1) k held;
        reads = λ more. ap (λ (n : ℕ). read_in g (room_of frames) (drop n (held ++ more))) start
            ∙ ap (λ (b : List ℕ). read_in g (room_of frames) b) (drop-append-le at held more within)
            ∙ subst (λ (n : ℕ). read_in g n (drop at held ++ more) ≡ read_container g (read_in g (n - 1)) k (drop len (drop at held) ++ more)) is (o.reads more)
            ∙ ap (λ (b : List ℕ). read_container g (read_in g (room_of frames - 1)) k b) (ends_there held more at len within le)
            ∙ opened-parts g (read_in g (room_of frames - 1)) k (held ++ more) (at + len) o.parts;
      },
      c,
    )

cut_there : (g : Grammar) (frames : List Frame) (held : List ℕ) (at room : ℕ) (why : Why) → IsBytes held → Chain g frames held → start_of frames ≡ at → at ≤ length held → room ≡ room_of frames → why ≡ Truncated
    → read_in g room (drop at held) ≡ Err (record { left = length (drop at held); why = why }) → IsCut g frames held
cut_there g frames held at room why fits c start within is cut e = record {
  bytes = fits;
  chain = c;
  place = (let s : start_of frames ≡ at = start in omega arith);
  reads = ap (λ (n : ℕ). read_in g (room_of frames) (drop n held)) start
      ∙ ap (λ (n : ℕ). read_in g n (drop at held)) (sym is)
      ∙ e
      ∙ ap (λ (y : Why). Err (record { left = length (drop at held); why = y })) cut
      ∙ ap (λ (n : ℕ). Err (record { left = n; why = Truncated })) (length-drop at held ∙ ap (λ (n : ℕ). length held - n) (sym start));
}

-- the next part isn't there
pub stopped-there : (g : Grammar) (frames : List Frame) (held : List ℕ) (at room : ℕ) (why : Why) → IsBytes held → Chain g frames held → start_of frames ≡ at → at ≤ length held → room ≡ room_of frames
    → read_in g room (drop at held) ≡ Err (record { left = length (drop at held); why = why }) → (walked : Walked) → IsStopped at why walked → HasWalked g frames held walked
stopped-there g frames held at room why fits c start within is e Cut cut = cut_there g frames held at room why fits c start within is cut e
stopped-there g frames held at room why fits c start within is e (WalkedWhole item end) no_item = absurd no_item
stopped-there g frames held at room why fits c start within is e (WalkedStuck fault) other =
    let there : read_in g (room_of frames) (drop at held) ≡ Err (record { left = length (drop at held); why = why }) = ap (λ (n : ℕ). read_in g n (drop at held)) (sym is) ∙ e in
    subst (λ (f : Fault). IsStuck g held f) (sym other.0) (stuck_there g frames held at why c start within other.1 there)
