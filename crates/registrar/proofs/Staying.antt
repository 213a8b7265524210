-- Over every history the log only grows, and what was admitted stays where it stands.
use Rattle.std.proofs.Common.{◌≡◌, ℕ, inl, inr, List, [], ◌∷◌, ◌++◌, ◌==◌, Bool, Option, None, Some, length, refl, sym, ap, ◌∙◌, subst, arith, append_assoc, append-nil, length-append}
use Rattle.std.specs.Prelude.{flat_map, slice_get, IsTrue}
use Rattle.std.specs.List.{cons_option}
use Rattle.std.proofs.Math.Seq.{get_or-append_seam}
use Rattle.std.proofs.lemmas.List.{get_or_append_left}
use Rattle.std.proofs.lemmas.List.Elements.{filter_map-append}
use Rattle.std.proofs.lemmas.Grind.{flat_map-append}
use Rattle.std.proofs.lemmas.Option.{slice_get_within, get_or_from_slice_get, slice_get-get_or}
use Rattle.statement.specs.Said.{Said}
use Rattle.log_replay.specs.Records.{Log, Record, reserve_record, batch_record, record_of, records_of, header_of, leaves_of, entries_in, reserved_of}
use Rattle.log_replay.specs.WellMade.{WellMade}
use Rattle.log_replay.specs.Spelling.{body_of}
use Rattle.registrar.specs.declared.words.Outcome.{Outcome}
use Rattle.registrar.specs.declared.words.Outcome.TheVariants as answer
use Rattle.registrar.specs.Turns.{Standing, Call, Answer, Turns, Registers, Adds, Stops, needed_of, log_with, ready_log, new_entry, register_call, receipt_call, statement_call, consistency_call, policy_call, keys_call, key_hint_call, registered, read, made, hint}
use Rattle.registrar.specs.Histories.{BetweenCalls, InsideCall, Event, turn, stop, stop_inside, Happens, LogsOnlyGrow, AdmittedStays}
use Rattle.registrar.proofs.Rising.{Laws}
use Rattle.registrar.proofs.Reserving.{reads_reserve, made_less, is_reserve}

-- ---- logs only grow

abbrev Grows : Log → Log → Type 0
Grows R S = (more : Log) × (S ≡ R ++ more)

along : (R S T : Log) → Grows R S → T ≡ S → Grows R T
along R S T h e = (h.0, e ∙ h.1)

with_grows : (needed : Option (List ℕ)) (R : Log) → Grows R (log_with needed R)
with_grows None R = ([], sym (append-nil R))
with_grows (Some body) R = (body ∷ [], refl)

one_behind : (R S : Log) (body : List ℕ) → Grows R S → Grows R (S ++ body ∷ [])
one_behind R S body h = (h.0 ++ body ∷ [], ap (λ L. L ++ body ∷ []) h.1 ∙ append_assoc R h.0 (body ∷ []))

same_grows : (R S : Log) → S ≡ R → Grows R S
same_grows R S e = ([], e ∙ sym (append-nil R))

chained : (R S T : Log) → Grows R S → Grows S T → Grows R T
chained R S T h k = (h.0 ++ k.0, k.1 ∙ ap (λ L. L ++ k.0) h.1 ∙ append_assoc R h.0 k.0)

stops_grows : (old new : Standing) (entries : List (List ℕ)) → Stops old entries new → Grows old.log new.log
stops_grows old new entries (inl h) = same_grows old.log new.log h.log
stops_grows old new entries (inr h) = along old.log (ready_log old) new.log (with_grows (needed_of old) old.log) h.log

adds_grows : (old new : Standing) (entries : List (List ℕ)) → Adds old entries new → Grows old.log new.log
adds_grows old new entries h = along old.log (ready_log old ++ h.body ∷ []) new.log (one_behind old.log (ready_log old) h.body (with_grows (needed_of old) old.log)) h.log

logs_grow : (Tells : Type 0) (old new : Standing) (s : Said) (m : ℕ) (o : Outcome) → Registers Tells old s m o new → Grows old.log new.log
logs_grow Tells old new s m (answer.Denied given size moment) h = same_grows old.log new.log h.0.log
logs_grow Tells old new s m (answer.Known i receipt) h = same_grows old.log new.log h.0.log
logs_grow Tells old new s m (answer.LogFull entries bytes) h = same_grows old.log new.log h.0.log
logs_grow Tells old new s m (answer.KeyExhausted next capacity) h = same_grows old.log new.log h.0.log
logs_grow Tells old new s m (answer.Admitted i receipt) h = adds_grows old new _ h.2
logs_grow Tells old new s m answer.OutOfMemory h = same_grows old.log new.log h.0.log
logs_grow Tells old new s m answer.DiskFault (inl h) = same_grows old.log new.log (ap (λ S. S.log) h.same)
logs_grow Tells old new s m answer.DiskFault (inr (inl h)) = same_grows old.log new.log h.2.log
logs_grow Tells old new s m answer.DiskFault (inr (inr h)) = stops_grows old new _ h.2
logs_grow Tells old new s m (answer.Changed number) h = same_grows old.log new.log h.0.2.log

between_grows : (S : Standing) (L : Log) → BetweenCalls S L → Grows S.log L
between_grows S L (inl e) = same_grows S.log L e
between_grows S L (inr e) = along S.log (log_with S.pending S.log) L (with_grows S.pending S.log) e

inside_grows : (S : Standing) (entries : List (List ℕ)) (L : Log) → InsideCall S entries L → Grows S.log L
inside_grows S entries L (inl h) = between_grows S L h
inside_grows S entries L (inr (inl e)) = along S.log (ready_log S) L (with_grows (needed_of S) S.log) e
inside_grows S entries L (inr (inr h)) = along S.log (ready_log S ++ h.0 ∷ []) L (one_behind S.log (ready_log S) h.0 (with_grows (needed_of S) S.log)) h.2

stays : (old new : Standing) → new ≡ old → Grows old.log new.log
stays old new e = same_grows old.log new.log (ap (λ S. S.log) e)

turns_grow : (Tells : Type 0) (old : Standing) (call : Call) (answer : Answer) (new : Standing) → Turns Tells old call answer new → Grows old.log new.log
turns_grow Tells old (register_call s m) (registered o) new h = logs_grow Tells old new s m o h
turns_grow Tells old (receipt_call i) (read r) new h = stays old new h.0
turns_grow Tells old (statement_call i) (read r) new h = stays old new h.0
turns_grow Tells old (consistency_call i) (read r) new h = stays old new h.0
turns_grow Tells old policy_call (made b) new h = stays old new h.0
turns_grow Tells old keys_call (made b) new h = stays old new h.0
turns_grow Tells old (key_hint_call s) (hint k) new h = stays old new h.0
turns_grow Tells old _ _ new h = elim h [ ]

happens_grows : (tells : Bool) (old : Standing) (e : Event) (new : Standing) → Happens tells old e new → Grows old.log new.log
happens_grows tells old (turn call answer) new h = turns_grow (IsTrue tells) old call answer new h.turns
happens_grows tells old stop new h = along old.log h.0 new.log (between_grows old h.0 h.1) h.2.log
happens_grows tells old (stop_inside entries) new h = along old.log h.0 new.log (inside_grows old entries h.0 h.1) h.3.log

pub only_grow : LogsOnlyGrow
only_grow tells [] old new h = stays old new h
only_grow tells (e ∷ events) old new h = chained old.log h.0.log new.log (happens_grows tells old e h.0 h.1) (only_grow tells events h.0 new h.2)

-- ---- what was admitted stays

leaves_append : (R T : Log) → leaves_of (R ++ T) ≡ leaves_of R ++ leaves_of T
leaves_append R T = ap (flat_map entries_in) (filter_map-append record_of R T) ∙ flat_map-append entries_in (records_of R) (records_of T)

leaves-more : (R : Log) (body : List ℕ) (r : Record) → record_of body ≡ Some r → leaves_of (R ++ body ∷ []) ≡ leaves_of R ++ entries_in r
leaves-more R body r e =
    leaves_append R (body ∷ [])
    ∙ ap (λ o. leaves_of R ++ flat_map entries_in (cons_option o [])) e ∙ ap (λ xs. leaves_of R ++ xs) (append-nil (entries_in r))

leaves_ready : Laws → (needed : Option (List ℕ)) (R : Log) → ((n : List ℕ) → needed ≡ Some n → (upto : ℕ) × (n ≡ body_of (reserve_record upto))) → WellMade (log_with needed R)
    → leaves_of (log_with needed R) ≡ leaves_of R
leaves_ready laws None R reserve well = refl
leaves_ready laws (Some n) R reserve well =
    let r = reserve n refl in
    leaves-more R n (reserve_record r.0) (reads_reserve laws R n r.0 (laws.less R n well) r.1) ∙ append-nil (leaves_of R)

at_end : (L : List (List ℕ)) (x : List ℕ) (i : ℕ) → i ≡ length L → slice_get (L ++ x ∷ []) i ≡ Some x
at_end L x i e =
    ap (slice_get (L ++ x ∷ [])) e ∙ slice_get-get_or (L ++ x ∷ []) (length L) [] (omega (arith, length-append L (x ∷ []))) ∙ ap Some (get_or-append_seam L x [] [])

further : (L M : List (List ℕ)) (i : ℕ) (x : List ℕ) → slice_get L i ≡ Some x → slice_get (L ++ M) i ≡ Some x
further L M i x h =
    let there = slice_get_within L i x h in
    slice_get-get_or (L ++ M) i [] (omega (arith, there, length-append L M)) ∙ ap Some (get_or_append_left L M [] i there ∙ get_or_from_slice_get L i x [] h)

pub admitted_stays : Laws → AdmittedStays
admitted_stays laws tells events old new later s m i receipt h history =
    let turned = h.turns in
    let rule = turned.0 in
    let added = turned.2 in
    let leaf = new_entry old s m rule in
    let ready : WellMade (ready_log old) = made_less (ready_log old) added.body (subst WellMade added.log h.after.log) in
    let leaves : leaves_of new.log ≡ leaves_of old.log ++ leaf ∷ [] =
    ap leaves_of added.log
    ∙ leaves-more (ready_log old) added.body (batch_record (record { entries = leaf ∷ []; index = old.next; signature = added.batch.0 })) added.batch.1
    ∙ ap (λ L. L ++ leaf ∷ []) (leaves_ready laws (needed_of old) old.log (λ n e. is_reserve (old.next == reserved_of old.log) (header_of old.log) old.log n e) ready) in
    let last : i ≡ length (leaves_of old.log) = turned.3 ∙ laws.leaves old.log h.before.log in
    let there : slice_get (leaves_of new.log) i ≡ Some leaf = ap (λ (L : List (List ℕ)). slice_get L i) leaves ∙ at_end (leaves_of old.log) leaf i last in
    let grown = only_grow tells events new later history in
    let more : leaves_of later.log ≡ leaves_of new.log ++ leaves_of grown.0 = ap leaves_of grown.1 ∙ leaves_append new.log grown.0 in
    (rule, turned.1, ap (λ (L : List (List ℕ)). slice_get L i) more ∙ further (leaves_of new.log) (leaves_of grown.0) i leaf there)
