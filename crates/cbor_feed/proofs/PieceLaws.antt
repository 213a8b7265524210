-- A feed answers to any pieces as a decoder of all their bytes does.
use Rattle.std.proofs.Common.{◌≡◌, ℕ, ◌+◌, ◌≤◌, List, [], ◌∷◌, ◌++◌, length, take, drop, Option, Result, Ok, Err, refl, sym, ap, subst, ◌∙◌, arith, append_assoc}
use Rattle.std.proofs.lemmas.List.{append-nil, length-append, length-take, take_at, take-append-drop}
use Rattle.cbor_core.specs.declared.words.Grammar.{Grammar}
use Rattle.cbor_core.specs.declared.words.Why.TheVariants.{Truncated}
use Rattle.cbor_core.specs.declared.words.Fault.{Fault}
use Rattle.cbor_core.specs.declared.words.DecodeStop.{DecodeStop}
use Rattle.cbor_core.specs.declared.words.DecodeStop.TheVariants.{Fault as AtFault, OutOfMemory}
use Rattle.cbor_core.specs.declared.tree.Item.{Item}
use Rattle.cbor_core.specs.Spells.{Spells}
use Rattle.cbor_core.specs.Faults.{FaultIn}
use Rattle.cbor_core.specs.Decoding.{Decoded}
use Rattle.cbor_core.proofs.DecodeLaws.{prefix_free, not_both, one_fault}
use Rattle.cbor_feed.specs.declared.words.Fed.{Fed}
use Rattle.cbor_feed.specs.declared.words.Fed.TheVariants.{NeedMore, Done, Fault as FaultFed, OutOfMemory as Exhausted}
use Rattle.cbor_feed.specs.Feeding.{Feeding, Answers, Gives, Finishes}
use Rattle.cbor_feed.specs.Pieces.{Agrees, EndsAlike, joined, fresh, WasFed, AsTheWhole, EndsAsTheWhole}

-- ---- all the bytes so far

fed_all : (feed now : Feeding) (pieces : List (List ℕ)) → WasFed feed pieces now → (now.grammar ≡ feed.grammar) × (now.fed ≡ feed.fed ++ joined pieces)
fed_all feed now [] e = (ap (λ (f : Feeding). f.grammar) e, ap (λ (f : Feeding). f.fed) e ∙ sym (append-nil feed.fed))
fed_all feed now (piece ∷ pieces) (next, (cut, is), more) =
    let p = fed_all next now pieces more in
    (p.0 ∙ ap (λ (f : Feeding). f.grammar) is, p.1 ∙ ap (λ (f : Feeding). f.fed ++ joined pieces) is ∙ append_assoc feed.fed piece (joined pieces))

-- ---- one answer for all the bytes

-- an item that ends so many bytes into the piece is the one that is decoded
one_item : (g : Grammar) (before piece : List ℕ) (n : ℕ) (item : Item) (found : Item × ℕ) → n ≤ length piece → Spells g item (before ++ take n piece) → Decoded g (before ++ piece) (Ok found) → (found.1 ≡ length before + n) × (found.0 ≡ item)
one_item g before piece n item found le s (within, t) =
    let all = before ++ piece in
    let mine : (before ++ take n piece) ++ drop n piece ≡ take found.1 all ++ drop found.1 all = append_assoc before (take n piece) (drop n piece) ∙ ap (λ (l : List ℕ). before ++ l) (take-append-drop n piece) ∙ sym (take-append-drop found.1 all) in
    let p = prefix_free g item found.0 (before ++ take n piece) (take found.1 all) (drop n piece) (drop found.1 all) s t mine in
    (omega (arith, ap length p.1, length-append before (take n piece), length-take n piece, length-take found.1 all), sym p.0)

no_fault : (g : Grammar) (before piece : List ℕ) (n : ℕ) (item : Item) (fault : Fault) → n ≤ length piece → Spells g item (before ++ take n piece) → FaultIn g 0 (before ++ piece) fault.at fault.why → ⊥
no_fault g before piece n item fault le s f =
    let front = before ++ take n piece in
    let whole : before ++ piece ≡ front ++ drop n piece = ap (λ (l : List ℕ). before ++ l) (sym (take-append-drop n piece)) ∙ sym (append_assoc before (take n piece) (drop n piece)) in
    let len : length front ≤ length (before ++ piece) = omega (arith, length-append before (take n piece), length-take n piece, length-append before piece) in
    let at : take (length front) (before ++ piece) ≡ front = ap (λ (l : List ℕ). take (length front) l) whole ∙ take_at front (drop n piece) (length front) refl in
    not_both g (before ++ piece) (item, length front, len, subst (λ (t : List ℕ). Spells g item t) (sym at) s) (fault.at, fault.why, f)

no_item : (g : Grammar) (bytes : List ℕ) (at : ℕ) (fault : Fault) (found : Item × ℕ) → FaultIn g 0 bytes fault.at fault.why → Decoded g bytes (Ok found) → ⊥
no_item g bytes at fault found f (within, s) = not_both g bytes (found.0, found.1, within, s) (fault.at, fault.why, f)

same_fault : (g : Grammar) (bytes : List ℕ) (a b : Fault) → FaultIn g 0 bytes a.at a.why → FaultIn g 0 bytes b.at b.why → a ≡ b
same_fault g bytes a b f h =
    let p = one_fault g bytes a.at b.at a.why b.why f h in
    λ i. record { at = p.0 i; why = p.1 i }

answers_so : (feed : Feeding) (piece : List ℕ) (answer : Fed) (new : Feeding) (decoded : Result (Item × ℕ) DecodeStop) → Answers feed piece answer new → Decoded feed.grammar (feed.fed ++ piece) decoded → Agrees (length feed.fed) answer decoded
answers_so feed piece answer new (Err OutOfMemory) a d = tt
answers_so feed piece NeedMore new (Ok found) ((at, f), is) d = no_item feed.grammar (feed.fed ++ piece) at (record { at = at; why = Truncated }) found f d
answers_so feed piece NeedMore new (Err (AtFault fault)) ((at, f), is) d = (one_fault feed.grammar (feed.fed ++ piece) fault.at at fault.why Truncated d f).1
answers_so feed piece (Done n) new (Ok found) (some, le, (item, s), is) d = (one_item feed.grammar feed.fed piece n item found le s d).0
answers_so feed piece (Done n) new (Err (AtFault fault)) (some, le, (item, s), is) d = no_fault feed.grammar feed.fed piece n item fault le s d
answers_so feed piece (FaultFed own) new (Ok found) (other, f, is) d = no_item feed.grammar (feed.fed ++ piece) own.at own found f d
answers_so feed piece (FaultFed own) new (Err (AtFault fault)) (other, f, is) d = same_fault feed.grammar (feed.fed ++ piece) fault own d f
answers_so feed piece Exhausted new (Ok found) a d = tt
answers_so feed piece Exhausted new (Err (AtFault fault)) a d = tt

ok_is_no_fault : (item : Item) (fault : Fault) → ◌≡◌ {A = Result Item DecodeStop} (Ok item) (Err (AtFault fault)) → ⊥
ok_is_no_fault item fault e = cc

ok_is_no_memory : (item : Item) → ◌≡◌ {A = Result Item DecodeStop} (Ok item) (Err OutOfMemory) → ⊥
ok_is_no_memory item e = cc

fault_is_no_memory : (fault : Fault) → ◌≡◌ {A = Result Item DecodeStop} (Err (AtFault fault)) (Err OutOfMemory) → ⊥
fault_is_no_memory fault e = cc

same_stop : (a b : Fault) → ◌≡◌ {A = Result Item DecodeStop} (Err (AtFault a)) (Err (AtFault b)) → a ≡ b
same_stop a b e = cc

ends_so : (feed : Feeding) (piece : List ℕ) (answer : Fed) (new : Feeding) (end : Result Item DecodeStop) (decoded : Result (Item × ℕ) DecodeStop) → Answers feed piece answer new → Finishes new end → Decoded feed.grammar (feed.fed ++ piece) decoded → EndsAlike end decoded
ends_so feed piece answer new end (Err OutOfMemory) a f d = tt
ends_so feed piece answer new (Err OutOfMemory) (Ok found) a f d = tt
ends_so feed piece answer new (Err OutOfMemory) (Err (AtFault fault)) a f d = tt
ends_so feed piece NeedMore new (Ok item) (Ok found) (cut, is) f d = absurd (subst (λ (x : Feeding). Finishes x (Ok item)) is f)
ends_so feed piece NeedMore new (Ok item) (Err (AtFault fault)) (cut, is) f d = absurd (subst (λ (x : Feeding). Finishes x (Ok item)) is f)
ends_so feed piece NeedMore new (Err (AtFault own)) (Ok found) (cut, is) f d = no_item feed.grammar (feed.fed ++ piece) own.at own found (subst (λ (x : Feeding). Finishes x (Err (AtFault own))) is f).1 d
ends_so feed piece NeedMore new (Err (AtFault own)) (Err (AtFault fault)) (cut, is) f d = same_fault feed.grammar (feed.fed ++ piece) fault own d (subst (λ (x : Feeding). Finishes x (Err (AtFault own))) is f).1
ends_so feed piece (Done n) new (Ok item) (Ok found) (some, le, spelled, is) f d = (one_item feed.grammar feed.fed piece n item found le (subst (λ (x : Feeding). Finishes x (Ok item)) is f) d).1
ends_so feed piece (Done n) new (Ok item) (Err (AtFault fault)) (some, le, spelled, is) f d = no_fault feed.grammar feed.fed piece n item fault le (subst (λ (x : Feeding). Finishes x (Ok item)) is f) d
ends_so feed piece (Done n) new (Err (AtFault own)) (Ok found) (some, le, spelled, is) f d = absurd (subst (λ (x : Feeding). Finishes x (Err (AtFault own))) is f)
ends_so feed piece (Done n) new (Err (AtFault own)) (Err (AtFault fault)) (some, le, spelled, is) f d = absurd (subst (λ (x : Feeding). Finishes x (Err (AtFault own))) is f)
ends_so feed piece (FaultFed why) new (Ok item) (Ok found) (other, h, is) f d = absurd (no_item feed.grammar (feed.fed ++ piece) why.at why found h d)
ends_so feed piece (FaultFed why) new (Ok item) (Err (AtFault fault)) (other, h, is) f d = absurd (ok_is_no_fault item why (subst (λ (x : Feeding). Finishes x (Ok item)) is f))
ends_so feed piece (FaultFed why) new (Err (AtFault own)) (Ok found) (other, h, is) f d = no_item feed.grammar (feed.fed ++ piece) why.at why found h d
ends_so feed piece (FaultFed why) new (Err (AtFault own)) (Err (AtFault fault)) (other, h, is) f d = same_fault feed.grammar (feed.fed ++ piece) fault why d h ∙ sym (same_stop own why (subst (λ (x : Feeding). Finishes x (Err (AtFault own))) is f))
ends_so feed piece Exhausted new (Ok item) (Ok found) (same, last) f d = absurd (ok_is_no_memory item (subst (λ (o : Option Fed). Gives new.grammar new.fed o (Ok item)) last f))
ends_so feed piece Exhausted new (Ok item) (Err (AtFault fault)) (same, last) f d = absurd (ok_is_no_memory item (subst (λ (o : Option Fed). Gives new.grammar new.fed o (Ok item)) last f))
ends_so feed piece Exhausted new (Err (AtFault own)) (Ok found) (same, last) f d = absurd (fault_is_no_memory own (subst (λ (o : Option Fed). Gives new.grammar new.fed o (Err (AtFault own))) last f))
ends_so feed piece Exhausted new (Err (AtFault own)) (Err (AtFault fault)) (same, last) f d = absurd (fault_is_no_memory own (subst (λ (o : Option Fed). Gives new.grammar new.fed o (Err (AtFault own))) last f))

-- ---- behind any pieces

decoded_as : (g : Grammar) (pieces : List (List ℕ)) (piece : List ℕ) (feed : Feeding) (decoded : Result (Item × ℕ) DecodeStop) → WasFed (fresh g) pieces feed → Decoded g (joined pieces ++ piece) decoded → Decoded feed.grammar (feed.fed ++ piece) decoded
decoded_as g pieces piece feed decoded was d =
    let p = fed_all (fresh g) feed pieces was in
    let d' : Decoded feed.grammar (joined pieces ++ piece) decoded = subst (λ (x : Grammar). Decoded x (joined pieces ++ piece) decoded) (sym p.0) d in
    subst (λ (b : List ℕ). Decoded feed.grammar (b ++ piece) decoded) (sym p.1) d'

pub as_the_whole : AsTheWhole
as_the_whole g pieces piece feed new answer decoded was a d =
    let p = fed_all (fresh g) feed pieces was in
    subst (λ (b : List ℕ). Agrees (length b) answer decoded) p.1 (answers_so feed piece answer new decoded a (decoded_as g pieces piece feed decoded was d))

pub ends_as_the_whole : EndsAsTheWhole
ends_as_the_whole g pieces piece feed new answer end decoded was a f d = ends_so feed piece answer new end decoded a f (decoded_as g pieces piece feed decoded was d)
