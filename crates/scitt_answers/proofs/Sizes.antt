-- What the turns of a session find, and what its answers print.
use Rattle.std.proofs.Common.{◌≡◌, ℕ, ◌+◌, ◌-◌, ◌^◌, ◌<◌, ◌≤◌, min, List, [], ◌∷◌, ◌++◌, length, Bool, IsTrue, Option, None, Ok, Err, refl, sym, ap, ◌∙◌, subst, arith, length-append}
use Rattle.std.specs.Prelude.{flat_map, filter_map}
use Rattle.std.proofs.lemmas.Grind.{flat_map-append}
use Rattle.std.proofs.lemmas.List.Elements.{filter_map-append}
use mathlib.Core.List.{IsPrefix}
use base.Growing.{prefix_refl, prefix_trans}
use Rattle.statement.specs.Said.{Said}
use Rattle.registrar.specs.declared.words.Outcome.TheVariants as outcome
use Rattle.registrar.specs.declared.words.ReadBack.TheVariants as stop
use Rattle.registrar.specs.Turns.{Standing, Call, Turn, key_hint_call, hint, registered, read, made}
use Rattle.registrar.specs.Turns.{Answer as Reply}
use Rattle.registrar.specs.Histories.{LogsOnlyGrow, turn}
use Rattle.log_replay.specs.Records.{Log, Record, entries_of, records_of, leaves_of, record_of, entries_in, entry_of}
use Rattle.scitt_answers.specs.Marks.{Mark, Step, Doing, asks, looks, DoneIn, Chain, Next, AreSteps, LeavesSize, entries_at}
use Rattle.scitt_answers.specs.declared.asking.Ask.{Ask}
use Rattle.scitt_answers.specs.declared.asking.Ask.TheVariants as ask
use Rattle.scitt_answers.specs.declared.replying.Manner.{Manner}
use Rattle.scitt_answers.specs.Asking.{ask_of, manner_of}
use Rattle.scitt_answers.specs.Exchanges.{Asked, request, refused, Exchange, DoesOne, DoesTwo, AnswersAsk, AnswersBody, refuses_body, lacks_moment, registers, lacks_memory_to_read, lacks_memory_to_check, Answers}
use Rattle.scitt_answers.specs.Sessions.{steps_in}
use Rattle.scitt_answers.specs.Laws.{ChainAlone, ExitsAlone, FindAll, SizesFollow, SizesAlone, final_size, SizeAtExit, Begins, FindMore, SizesGrow, SizesAmongOthers, BeginIt, LogsBeginExit, LogsBeginSeen, FaultsNeverFall}
use Rattle.scitt_answers.proofs.Joining.{chain_weaker}

-- a registrar's turn leaves a log that begins with the one found
pub turn_grows : LogsOnlyGrow → (tells : Bool) (old new : Standing) (call : Call) (reply : Reply) → Turn (IsTrue tells) old call reply new → IsPrefix old.log new.log
turn_grows law tells old new call reply t = let g = law tells (turn call reply ∷ []) old new (new, t, refl) in (g.0, sym g.1)

-- ---- parts of a chain

chain_front : (P : Mark → Type 0) (follows : Mark → Mark → Type 0) (steps others : List Step) → Chain P follows (steps ++ others) → Chain P follows steps
chain_front P follows [] others h = tt
chain_front P follows (s ∷ steps) others h = (h.0, chain_front (follows s.left) follows steps others h.1)

chain_back : (P : Mark → Type 0) (follows : Mark → Mark → Type 0) (steps others : List Step) → Chain P follows (steps ++ others) → Chain (Next P follows steps) follows others
chain_back P follows [] others h = h
chain_back P follows (s ∷ steps) others h = chain_back (follows s.left) follows steps others h.1

next_parts : (P : Mark → Type 0) (follows : Mark → Mark → Type 0) (steps others : List Step) (m : Mark) → Next P follows (steps ++ others) m → Next (Next P follows steps) follows others m
next_parts P follows [] others m h = h
next_parts P follows (s ∷ steps) others m h = next_parts (follows s.left) follows steps others m h

-- the mark that the last of these turns left, or the first mark where there is none
abbrev final_mark : Mark → List Step → Mark
final_mark m [] = m
final_mark m (s ∷ steps) = final_mark s.left steps

leaves_final : (m : Mark) (steps : List Step) (size : ℕ) → LeavesSize steps size → size ≡ entries_at (final_mark m steps)
leaves_final m [] size h = absurd h
leaves_final m (s ∷ []) size h = h
leaves_final m (s ∷ t ∷ steps) size h = leaves_final s.left (t ∷ steps) size h

next_alone : (start : Mark) (steps : List Step) (m : Mark) → ExitsAlone start steps m → m ≡ final_mark start steps
next_alone start [] m h = h
next_alone start (s ∷ steps) m h = next_alone s.left steps m h

-- ---- the turns of one answer: all but the last leave the standing as it was

abbrev HoldStill : List Step → Type 0
HoldStill [] = Unit {0}
HoldStill (s ∷ []) = Unit {0}
HoldStill (s ∷ t ∷ steps) = (s.left.standing ≡ s.found.standing) × HoldStill (t ∷ steps)

one_holds : (steps : List Step) (does : Doing) → DoesOne steps does → HoldStill steps
one_holds [] does h = tt
one_holds (s ∷ []) does h = tt
one_holds (s ∷ t ∷ steps) does h = absurd h

hint_holds : (Tells : Type 0) (s : Step) (said : Said) (key : Option (List ℕ)) → s.does ≡ asks (key_hint_call said) (hint key)
    → DoneIn Tells s.found.standing s.does s.left.standing → s.left.standing ≡ s.found.standing
hint_holds Tells s said key e h =
    let done : DoneIn Tells s.found.standing (asks (key_hint_call said) (hint key)) s.left.standing = subst (λ (d : Doing). DoneIn Tells s.found.standing d s.left.standing) e h in
    done.turns.0

two_hold : (tells : Bool) (steps : List Step) (said : Said) (key : Option (List ℕ)) (second : Doing)
    → AreSteps tells steps → DoesTwo steps (asks (key_hint_call said) (hint key)) second → HoldStill steps
two_hold tells [] said key second are h = tt
two_hold tells (s ∷ []) said key second are h = tt
two_hold tells (s ∷ t ∷ []) said key second are h = (hint_holds (IsTrue tells) s said key h.0 are.0.done, tt)
two_hold tells (s ∷ t ∷ u ∷ steps) said key second are h = absurd h

body_holds : (tells : Bool) (e : Exchange) (body : List ℕ) (m : Manner) → AreSteps tells e.steps → AnswersBody body m e → HoldStill e.steps
body_holds tells e body m are (refuses_body r) = one_holds e.steps looks r.refuses.steps
body_holds tells e body m are (lacks_moment r) = one_holds e.steps looks r.steps
body_holds tells e body m are (registers r) = two_hold tells e.steps _ r.key _ are r.steps
body_holds tells e body m are (lacks_memory_to_read r) = one_holds e.steps looks r.steps
body_holds tells e body m are (lacks_memory_to_check r) = two_hold tells e.steps _ r.key _ are r.steps

ask_holds : (tells : Bool) (e : Exchange) (a : Ask) (body : List ℕ) (m : Manner) → AreSteps tells e.steps → AnswersAsk a body m e → HoldStill e.steps
ask_holds tells e (ask.Refuse p) body m are h = one_holds e.steps looks h.steps
ask_holds tells e (ask.Read r) body m are h = one_holds e.steps _ h.steps
ask_holds tells e ask.Register body m are h = body_holds tells e body m are h

answer_holds : (tells is_last : Bool) (e : Exchange) (asked : Asked) → AreSteps tells e.steps → Answers is_last e asked → HoldStill e.steps
answer_holds tells is_last e (request q) are h = ask_holds tells e (ask_of q) q.body (manner_of is_last q) are h
answer_holds tells is_last e (refused why of_head) are h = one_holds e.steps looks h.steps

find_all : (start : Mark) (steps : List Step) → ChainAlone start steps → HoldStill steps → FindAll (entries_at start) steps
find_all start [] chain hold = tt
find_all start (s ∷ []) chain hold = (ap entries_at chain.0, tt)
find_all start (s ∷ t ∷ steps) chain hold =
    let same : entries_at s.left ≡ entries_at start = ap (λ (S : Standing). length (entries_of S.log)) hold.0 ∙ ap entries_at chain.0 in
    (ap entries_at chain.0, subst (λ (n : ℕ). FindAll n (t ∷ steps)) same (find_all s.left (t ∷ steps) chain.1 hold.1))

-- ---- alone

pub sizes_alone : SizesAlone
sizes_alone tells start number [] each chain = tt
sizes_alone tells start number (e ∷ es) each chain =
    let P : Mark → Type 0 = λ m. m ≡ start in
    let follows : Mark → Mark → Type 0 = λ left next. next ≡ left in
    let front = chain_front P follows e.steps (steps_in es) chain in
    let back = chain_weaker (λ m. m ≡ final_mark start e.steps) (Next P follows e.steps) follows (steps_in es) (next_alone start e.steps) (chain_back P follows e.steps (steps_in es) chain) in (
      find_all start e.steps front (answer_holds tells _ e e.asked each.0.turns each.0.answers),
      subst (λ (n : ℕ). SizesFollow n es) (sym (leaves_final start e.steps e.answer.size each.0.size)) (sizes_alone tells (final_mark start e.steps) (number + 1) es each.1 back),
    )

exit_weaker : (P Q : Mark → Type 0) (follows : Mark → Mark → Type 0) (steps : List Step) (m : Mark) → ((k : Mark) → P k → Q k) → Next P follows steps m → Next Q follows steps m
exit_weaker P Q follows [] m f h = f m h
exit_weaker P Q follows (s ∷ steps) m f h = h

pub size_at_exit : SizeAtExit
size_at_exit tells start exit number [] each next = ap entries_at next
size_at_exit tells start exit number (e ∷ es) each next =
    let P : Mark → Type 0 = λ m. m ≡ start in
    let follows : Mark → Mark → Type 0 = λ left next. next ≡ left in
    let back = exit_weaker (Next P follows e.steps) (λ m. m ≡ final_mark start e.steps) follows (steps_in es) exit (next_alone start e.steps) (next_parts P follows e.steps (steps_in es) exit next) in
    subst (λ (n : ℕ). entries_at exit ≡ final_size n es) (sym (leaves_final start e.steps e.answer.size each.0.size)) (size_at_exit tells (final_mark start e.steps) exit (number + 1) es each.1 back)

-- ---- among others

entries_grow : (R S : Log) → IsPrefix R S → length (entries_of R) ≤ length (entries_of S)
entries_grow R S h =
    let e : entries_of S ≡ entries_of R ++ entries_of h.0 =
    ap entries_of (sym h.1)
    ∙ ap (λ (xs : List Record). filter_map entry_of (flat_map entries_in xs)) (filter_map-append record_of R h.0)
    ∙ ap (filter_map entry_of) (flat_map-append entries_in (records_of R) (records_of h.0))
    ∙ filter_map-append entry_of (leaves_of R) (leaves_of h.0) in
    omega (arith, ap length e, length-append (entries_of R) (entries_of h.0))

fewer_found : (a b : ℕ) (steps : List Step) → a ≤ b → FindMore b steps → FindMore a steps
fewer_found a b [] le h = tt
fewer_found a b (s ∷ steps) le h = (omega (arith, le, h.0), fewer_found a b steps le h.1)

find_more : (tells : Bool) (seen : Log) (steps : List Step) → AreSteps tells steps → Chain (λ m. IsPrefix seen m.standing.log) Begins steps → FindMore (length (entries_of seen)) steps
find_more tells seen [] are chain = tt
find_more tells seen (s ∷ steps) are chain =
    let found : length (entries_of seen) ≤ entries_at s.found = entries_grow seen s.found.standing.log chain.0 in
    let left : entries_at s.found ≤ entries_at s.left = entries_grow s.found.standing.log s.left.standing.log are.0.grows in
    (found, fewer_found (length (entries_of seen)) (entries_at s.left) steps (omega (arith, found, left)) (find_more tells s.left.standing.log steps are.1 chain.1))

next_final : (seen : Log) (first : Mark) (steps : List Step) (size : ℕ) → LeavesSize steps size → (m : Mark) → Next (λ k. IsPrefix seen k.standing.log) Begins steps m
    → IsPrefix (final_mark first steps).standing.log m.standing.log
next_final seen first [] size leaves m h = absurd leaves
next_final seen first (s ∷ []) size leaves m h = h
next_final seen first (s ∷ t ∷ steps) size leaves m h = next_final s.left.standing.log s.left (t ∷ steps) size leaves m h

-- the mark of a session that has made no turn
nowhere : Log → Mark
nowhere seen = record { standing = record { log = seen; next = 0; pending = None }; faults = 0 }

pub sizes_among_others : SizesAmongOthers
sizes_among_others tells seen number [] each chain = tt
sizes_among_others tells seen number (e ∷ es) each chain =
    let P : Mark → Type 0 = λ m. IsPrefix seen m.standing.log in
    let final : Mark = final_mark (nowhere seen) e.steps in
    let front = chain_front P Begins e.steps (steps_in es) chain in
    let back = chain_weaker (λ m. IsPrefix final.standing.log m.standing.log) (Next P Begins e.steps) Begins (steps_in es)
    (next_final seen (nowhere seen) e.steps e.answer.size each.0.size) (chain_back P Begins e.steps (steps_in es) chain) in (
      find_more tells seen e.steps each.0.turns front,
      subst (λ (n : ℕ). SizesGrow n es) (sym (leaves_final (nowhere seen) e.steps e.answer.size each.0.size)) (sizes_among_others tells final.standing.log (number + 1) es each.1 back),
    )

-- ---- in both

-- a log that begins all that may come next begins the log at exit
begins_exit : (tells : Bool) (R : Log) (begins : Mark → Type 0) (follows : Mark → Mark → Type 0) (steps : List Step) (exit : Mark)
    → ((left next : Mark) → follows left next → Begins left next) → ((m : Mark) → begins m → IsPrefix R m.standing.log)
    → AreSteps tells steps → Chain begins follows steps → Next begins follows steps exit → IsPrefix R exit.standing.log
begins_exit tells R begins follows [] exit law start are chain next = start exit next
begins_exit tells R begins follows (s ∷ steps) exit law start are chain next =
    let found = prefix_trans R s.found.standing.log s.left.standing.log (start s.found chain.0) are.0.grows in
    begins_exit tells R (follows s.left) follows steps exit law (λ m h. prefix_trans R s.left.standing.log m.standing.log found (law s.left m h)) are.1 chain.1 next

all_begin_exit : (tells : Bool) (begins : Mark → Type 0) (follows : Mark → Mark → Type 0) (steps : List Step) (exit : Mark)
    → ((left next : Mark) → follows left next → Begins left next)
    → AreSteps tells steps → Chain begins follows steps → Next begins follows steps exit → BeginIt exit.standing.log steps
all_begin_exit tells begins follows [] exit law are chain next = tt
all_begin_exit tells begins follows (s ∷ steps) exit law are chain next =
    let left = begins_exit tells s.left.standing.log (follows s.left) follows steps exit law (λ m h. law s.left m h) are.1 chain.1 next in
    (prefix_trans s.found.standing.log s.left.standing.log exit.standing.log are.0.grows left, left, all_begin_exit tells (follows s.left) follows steps exit law are.1 chain.1 next)

pub same_begins : (left next : Mark) → next ≡ left → Begins left next
same_begins left next e = subst (λ (m : Mark). IsPrefix left.standing.log m.standing.log) (sym e) (prefix_refl left.standing.log)

pub logs_begin_exit : LogsBeginExit
logs_begin_exit tells start steps exit are chain next = all_begin_exit tells (λ m. m ≡ start) (λ left next. next ≡ left) steps exit same_begins are chain next

pub logs_begin_seen : LogsBeginSeen
logs_begin_seen tells seen steps exit are chain next = all_begin_exit tells (λ m. IsPrefix seen m.standing.log) Begins steps exit (λ left next h. h) are chain next

pub rose_later : (before now : ℕ) → before < 2 ^ 64 → min (before + 1) (2 ^ 64 - 1) ≤ now → before ≤ now
rose_later before now b r = omega (arith, b, r)

same_later : (before now : ℕ) → now ≡ before → before ≤ now
same_later before now e = omega (arith, e)

pub faults_never_fall : FaultsNeverFall
faults_never_fall (asks call (registered outcome.DiskFault)) before now b h = rose_later before now b h
faults_never_fall (asks call (registered (outcome.Known i receipt))) before now b h = same_later before now h
faults_never_fall (asks call (registered (outcome.Denied rule size moment))) before now b h = same_later before now h
faults_never_fall (asks call (registered (outcome.LogFull entries bytes))) before now b h = same_later before now h
faults_never_fall (asks call (registered (outcome.KeyExhausted next capacity))) before now b h = same_later before now h
faults_never_fall (asks call (registered outcome.OutOfMemory)) before now b h = same_later before now h
faults_never_fall (asks call (registered (outcome.Changed number))) before now b h = same_later before now h
faults_never_fall (asks call (registered (outcome.Admitted i receipt))) before now b h = same_later before now h
faults_never_fall (asks call (read (Err stop.DiskFault))) before now b h = rose_later before now b h
faults_never_fall (asks call (read (Ok bytes))) before now b h = same_later before now h
faults_never_fall (asks call (read (Err (stop.NoEntry index size)))) before now b h = same_later before now h
faults_never_fall (asks call (read (Err (stop.NoSuchSize old size)))) before now b h = same_later before now h
faults_never_fall (asks call (read (Err (stop.Changed number)))) before now b h = same_later before now h
faults_never_fall (asks call (read (Err stop.OutOfMemory))) before now b h = same_later before now h
faults_never_fall (asks call (made bytes)) before now b h = same_later before now h
faults_never_fall (asks call (hint key)) before now b h = same_later before now h
faults_never_fall looks before now b h = same_later before now h
