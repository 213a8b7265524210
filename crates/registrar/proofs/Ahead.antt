-- The next index is ahead of every Batch, over every history.
use Rattle.std.proofs.Common.{◌≡◌, ℕ, ◌+◌, ◌≤◌, ◌⊎◌, inl, inr, List, [], ◌∷◌, ◌++◌, Bool, true, false, ◌==◌, if◌then◌else◌, Option, None, Some, refl, sym, ap, ◌∙◌, subst, arith}
use Rattle.std.specs.Prelude.{min, Contains, IfSome, IsTrue, option_map}
use Rattle.std.proofs.lemmas.Bool.Decides.{nat_tests}
use Rattle.std.proofs.lemmas.List.Elements.{Contains-push, Contains-push_cases, Contains-append_left}
use Rattle.statement.specs.Said.{Said}
use Rattle.hss_keys.specs.Levels.{capacity}
use Rattle.log_replay.specs.declared.parts.Header.{Header}
use Rattle.log_replay.specs.Records.{Log, Record, reserve_record, batch_record, record_of, reserved_of, header_of}
use Rattle.log_replay.specs.WellMade.{WellMade}
use Rattle.log_replay.specs.Spelling.{body_of}
use Rattle.registrar.specs.declared.words.Outcome.{Outcome}
use Rattle.registrar.specs.declared.words.Outcome.TheVariants as answer
use Rattle.registrar.specs.Turns.{Standing, IsSound, Call, Answer, Turns, Registers, Settles, Adds, StopsAtReserve, StopsAtBatch, IsBatch, reserve_needed, needed_of, log_with, ready_log, register_call, receipt_call, statement_call, consistency_call, policy_call, keys_call, key_hint_call, registered, read, made, hint}
use Rattle.registrar.specs.Histories.{Event, turn, stop, stop_inside, BetweenCalls, InsideCall, Reloads, Happens, History, IsLoaded, LogsAreWellMade, BatchAt, HasBatch, NoIndexTwice}
use Rattle.registrar.proofs.Rising.{Laws, rises, within, unique, reserve_fits, reserved-more}
use Rattle.registrar.proofs.Reserving.{reads_reserve, made_less, is_reserve}

-- ---- one standing

whole_made : (P : Option (List ℕ)) (R : Log) → WellMade R → IfSome P (λ body. WellMade (R ++ body ∷ [])) → WellMade (log_with P R)
whole_made None R base also = base
whole_made (Some p) R base also = also

in_whole : (P : Option (List ℕ)) (R : Log) (body : List ℕ) → Contains R body ⊎ (P ≡ Some body) → Contains (log_with P R) body
in_whole None R body (inl there) = there
in_whole None R body (inr e) = cc
in_whole (Some p) R body (inl there) = Contains-append_left R (p ∷ []) body there
in_whole (Some p) R body (inr e) = let same : p ≡ body = cc in subst (λ x. Contains (R ++ p ∷ []) x) same (Contains-push R p)

-- within one standing an index has one Batch
one_each : Laws → (S : Standing) (i : ℕ) (a b : List ℕ) → IsSound S → HasBatch S i a → HasBatch S i b → a ≡ b
one_each laws S i a b sound there other =
    unique laws [] (log_with S.pending S.log) a b i (whole_made S.pending S.log sound.log sound.pending) (in_whole S.pending S.log a there.0) (in_whole S.pending S.log b other.0)
    there.1 other.1

-- the next index is within the reservation, and above each Batch's
pub record IsAhead (S : Standing) : Type 0 where
  pub reserved : S.next ≤ reserved_of S.log
  pub above : (index : ℕ) (body : List ℕ) → HasBatch S index body → index + 1 ≤ S.next

-- ---- one event

-- of a standing behind another: its Batches stood there, or are not below the next index that was
record Later (S T : Standing) : Type 0 where
  pub next : S.next ≤ T.next
  pub old : (i : ℕ) (b : List ℕ) → HasBatch T i b → HasBatch S i b ⊎ (S.next ≤ i)

-- what an event does to indices
abbrev Goes : Standing → Standing → Type 0
Goes S T = IsAhead T × Later S T

-- a Batch that stood before, or the one at the next index, which then is behind the next one
abbrev Comes : Standing → Standing → ℕ → List ℕ → Type 0
Comes S T i b = HasBatch S i b ⊎ ((i ≡ S.next) × (S.next + 1 ≤ T.next))

goes_by : (S T : Standing) → IsAhead S → S.next ≤ T.next → T.next ≤ reserved_of T.log → ((i : ℕ) (b : List ℕ) → HasBatch T i b → Comes S T i b) → Goes S T
goes_by S T ahead next reserved comes = (
  record {
    reserved = reserved;
    above = λ i b there. elim (comes i b there) [ inl old ↦ (let k = ahead.above i b old in omega (arith, k, next)) | inr new ↦ (let e = new.0 in let k = new.1 in omega (arith, e, k)) ];
  },
  record {
    next = next;
    old = λ i b there. elim (comes i b there) [ inl old ↦ inl old | inr new ↦ inr (let e = new.0 in omega (arith, e)) ];
  },
)

-- nothing is written
settled : (S T : Standing) → IsAhead S → T.log ≡ S.log → T.next ≡ S.next → ((b : List ℕ) (i : ℕ) → T.pending ≡ Some b → BatchAt i b → Comes S T i b) → Goes S T
settled S T ahead log next pending =
    let up = ahead.reserved in
    let e = ap reserved_of log in
    goes_by S T ahead (omega (arith, next)) (omega (arith, next, up, e)) (λ i b there.
    elim there.0 [ inl inside ↦ inl (inl (subst (λ (L : Log). Contains L b) log inside), there.1) | inr left ↦ pending b i left there.1 ])

clash : (o : Option (List ℕ)) (b : List ℕ) → o ≡ None → o ≡ Some b → ⊥
clash None b e f = cc
clash (Some x) b e f = cc

no_pending : (S T : Standing) → T.pending ≡ None → (b : List ℕ) (i : ℕ) → T.pending ≡ Some b → BatchAt i b → Comes S T i b
no_pending S T none b i some is = absurd (clash T.pending b none some)

-- a Reserve is no Batch
no_batch : (upto i : ℕ) (body b : List ℕ) → record_of body ≡ Some (reserve_record upto) → body ≡ b → BatchAt i b → ⊥
no_batch upto i body b reads same batch =
    let e : Some (reserve_record upto) ≡ Some (batch_record (record { entries = batch.0; index = i; signature = batch.1.0 })) = sym reads ∙ ap record_of same ∙ batch.1.1 in cc

-- what a ready log holds, it held, but for a Reserve
ready_old_by : Laws → (needed : Option (List ℕ)) (R : Log) (b : List ℕ) (i : ℕ) → ((n : List ℕ) → needed ≡ Some n → (upto : ℕ) × (n ≡ body_of (reserve_record upto)))
    → WellMade (log_with needed R) → Contains (log_with needed R) b → BatchAt i b → Contains R b
ready_old_by laws None R b i reserve well there is = there
ready_old_by laws (Some n) R b i reserve well there is =
    elim (Contains-push_cases R n b there) [
      | inl old ↦ old
      | inr same ↦ (let r = reserve n refl in absurd (no_batch r.0 i n b (reads_reserve laws R n r.0 (laws.less R n well) r.1) same is))
    ]

ready_old : Laws → (S : Standing) (b : List ℕ) (i : ℕ) → WellMade (ready_log S) → Contains (ready_log S) b → BatchAt i b → Contains S.log b
ready_old laws S b i well there is =
    ready_old_by laws (needed_of S) S.log b i (λ n e. is_reserve (S.next == reserved_of S.log) (header_of S.log) S.log n e) well there is

index_in : Option Record → ℕ
index_in (Some (batch_record b)) = b.index
index_in _ = 0

index_same : (x b : List ℕ) (i j : ℕ) → x ≡ b → BatchAt i x → BatchAt j b → j ≡ i
unfolding index_in
index_same x b i j same one two = ap index_in (sym two.1.1 ∙ ap record_of (sym same) ∙ one.1.1)

if_some_at : (o : Option (List ℕ)) (P : List ℕ → Type 0) (b : List ℕ) → IfSome o P → o ≡ Some b → P b
if_some_at None P b is e = cc
if_some_at (Some x) P b is e = let same : x ≡ b = cc in subst P same is

-- behind a ready log, at the next index
behind : Laws → (S T : Standing) (entries : List (List ℕ)) (body : List ℕ) (L : Log) → WellMade L → IsBatch entries S.next body → L ≡ ready_log S ++ body ∷ [] → S.next + 1 ≤ T.next
    → (i : ℕ) (b : List ℕ) → Contains L b → BatchAt i b → Comes S T i b
behind laws S T entries body L well batch log next i b there is =
    elim (Contains-push_cases (ready_log S) body b (subst (λ (M : Log). Contains M b) log there)) [
      | inl old ↦ inl (inl (ready_old laws S b i (made_less (ready_log S) body (subst WellMade log well)) old is), is)
      | inr same ↦ inr (index_same body b S.next i same (entries, batch) is, next)
    ]

next_reserved : Laws → (S : Standing) (entries : List (List ℕ)) (body : List ℕ) (L : Log) → WellMade L → IsBatch entries S.next body → L ≡ ready_log S ++ body ∷ [] → S.next + 1 ≤ reserved_of L
next_reserved laws S entries body L well batch log =
    let there : Contains L body = subst (λ (M : Log). Contains M body) (sym log) (Contains-push (ready_log S) body) in
    let h = within laws [] L body S.next well there (entries, batch) in
    let k = h.1 in omega (arith, k)

adds_goes : Laws → (S T : Standing) (entries : List (List ℕ)) → IsAhead S → IsSound T → Adds S entries T → Goes S T
adds_goes laws S T entries ahead sound h =
    let up = next_reserved laws S entries h.body T.log sound.log h.batch h.log in
    let next = h.next in
    goes_by S T ahead (omega (arith, next)) (omega (arith, next, up)) (λ i b there.
    elim there.0 [
      | inl inside ↦ behind laws S T entries h.body T.log sound.log h.batch h.log (omega (arith, next)) i b inside there.1
      | inr left ↦ no_pending S T h.pending b i left there.1
    ])

ready_by : Laws → (x : ℕ) (R : Log) (h : Header) (o : Option Header) (test : Bool) → o ≡ Some h → (x == reserved_of R) ≡ test → x ≤ reserved_of R →
    WellMade (log_with (if test then option_map (λ k. reserve_needed k R) o else None) R) → x + 1 ≤ reserved_of (log_with (if test then option_map (λ k. reserve_needed k R) o else None) R)
ready_by laws x R h None test is e within' well = cc
ready_by laws x R h (Some k) true is e within' well =
    let upto = min (reserved_of R + k.block) (capacity k.levels) in
    let none = laws.less R (reserve_needed k R) well in
    let reads = reads_reserve laws R (reserve_needed k R) upto none refl in
    let fits = reserve_fits laws R (reserve_needed k R) upto reads none in
    let more = reserved-more R (reserve_needed k R) (reserve_record upto) reads in
    omega (arith, within', fits, more)
ready_by laws x R h (Some k) false is e within' well = grind (arith, nat_tests)

ready_above : Laws → (S : Standing) (h : Header) → header_of S.log ≡ Some h → IsAhead S → WellMade (ready_log S) → S.next + 1 ≤ reserved_of (ready_log S)
ready_above laws S h is ahead well = ready_by laws S.next S.log h (header_of S.log) (S.next == reserved_of S.log) is refl ahead.reserved well

stops_at_batch : Laws → (S T : Standing) (h : Header) (entries : List (List ℕ)) → header_of S.log ≡ Some h → IsAhead S → IsSound T → StopsAtBatch S entries T → Goes S T
stops_at_batch laws S T h entries is ahead sound stops =
    let next = stops.next in
    let well = subst WellMade stops.log sound.log in
    let up = ready_above laws S h is ahead well in
    let e = ap reserved_of stops.log in
    goes_by S T ahead (omega (arith, next)) (omega (arith, next, up, e)) (λ i b there.
    elim there.0 [
      | inl inside ↦ inl (inl (ready_old laws S b i well (subst (λ (L : Log). Contains L b) stops.log inside) there.1), there.1)
      | inr left ↦ inr (index_same b b S.next i refl (entries, if_some_at T.pending (IsBatch entries S.next) b stops.pending left) there.1, omega (arith, next))
    ])

stops_at_reserve : Laws → (S T : Standing) → IsAhead S → IsSound T → StopsAtReserve S T → Goes S T
stops_at_reserve laws S T ahead sound stops =
    settled S T ahead stops.log stops.next (λ b i left is.
    let same = if_some_at T.pending (λ x. x ≡ stops.needed) b stops.pending left in
    let r = is_reserve (S.next == reserved_of S.log) (header_of S.log) S.log stops.needed stops.is_needed in
    let none = laws.less T.log b (if_some_at T.pending (λ x. WellMade (T.log ++ x ∷ [])) b sound.pending left) in
    absurd (no_batch r.0 i b b (reads_reserve laws T.log b r.0 none (same ∙ r.1)) refl is))

settles : (S T : Standing) → IsAhead S → Settles S T → Goes S T
settles S T ahead h = settled S T ahead h.log h.next (no_pending S T h.pending)

stays : (S T : Standing) → IsAhead S → T ≡ S → Goes S T
stays S T ahead same = settled S T ahead (ap (λ X. X.log) same) (ap (λ X. X.next) same) (λ b i left is. inl (inr (ap (λ X. X.pending) (sym same) ∙ left), is))

headed : {B : Type 0} (o : Option Header) (f : Header → B) (x : B) → option_map f o ≡ Some x → (h : Header) × (o ≡ Some h)
headed None f x e = cc
headed (Some h) f x e = (h, refl)

registers : Laws → (Tells : Type 0) (S T : Standing) (s : Said) (m : ℕ) (o : Outcome) → IsAhead S → IsSound T → Registers Tells S s m o T → Goes S T
registers laws Tells S T s m (answer.Denied given size moment) ahead sound h = settles S T ahead h.0
registers laws Tells S T s m (answer.Known i receipt) ahead sound h = settles S T ahead h.0
registers laws Tells S T s m (answer.LogFull entries bytes) ahead sound h = settles S T ahead h.0
registers laws Tells S T s m (answer.KeyExhausted next capacity) ahead sound h = settles S T ahead h.0
registers laws Tells S T s m (answer.Admitted i receipt) ahead sound h = adds_goes laws S T _ ahead sound h.2
registers laws Tells S T s m answer.OutOfMemory ahead sound h = settles S T ahead h.0
registers laws Tells S T s m answer.DiskFault ahead sound (inl h) = stays S T ahead h.same
registers laws Tells S T s m answer.DiskFault ahead sound (inr (inl h)) = settles S T ahead h.2
registers laws Tells S T s m answer.DiskFault ahead sound (inr (inr (rule, ruling, inl h))) = stops_at_reserve laws S T ahead sound h
registers laws Tells S T s m answer.DiskFault ahead sound (inr (inr (rule, ruling, inr h))) =
    let head = headed (header_of S.log) _ _ ruling in stops_at_batch laws S T head.0 _ head.1 ahead sound h
registers laws Tells S T s m (answer.Changed number) ahead sound h = settles S T ahead h.0.2

turns_go : Laws → (Tells : Type 0) (S : Standing) (call : Call) (answer : Answer) (T : Standing) → IsAhead S → IsSound T → Turns Tells S call answer T → Goes S T
turns_go laws Tells S (register_call s m) (registered o) T ahead sound h = registers laws Tells S T s m o ahead sound h
turns_go laws Tells S (receipt_call i) (read r) T ahead sound h = stays S T ahead h.0
turns_go laws Tells S (statement_call i) (read r) T ahead sound h = stays S T ahead h.0
turns_go laws Tells S (consistency_call i) (read r) T ahead sound h = stays S T ahead h.0
turns_go laws Tells S policy_call (made b) T ahead sound h = stays S T ahead h.0
turns_go laws Tells S keys_call (made b) T ahead sound h = stays S T ahead h.0
turns_go laws Tells S (key_hint_call s) (hint k) T ahead sound h = stays S T ahead h.0
turns_go laws Tells S _ _ T ahead sound h = elim h [ ]

-- ---- stops

whole_rises : Laws → (P : Option (List ℕ)) (R : Log) → WellMade (log_with P R) → reserved_of R ≤ reserved_of (log_with P R)
whole_rises laws None R well = omega arith
whole_rises laws (Some p) R well = (rises laws R p (laws.less R p well)).reserved

out_of_whole : (P : Option (List ℕ)) (R : Log) (b : List ℕ) → Contains (log_with P R) b → Contains R b ⊎ (P ≡ Some b)
out_of_whole None R b there = inl there
out_of_whole (Some p) R b there = elim (Contains-push_cases R p b there) [ inl old ↦ inl old | inr same ↦ inr (ap Some same) ]

-- loading goes on with a list that holds no new Batch
reloads : (S T : Standing) (L : Log) → IsAhead S → Reloads L T → reserved_of S.log ≤ reserved_of L → ((i : ℕ) (b : List ℕ) → Contains L b → BatchAt i b → HasBatch S i b) → Goes S T
reloads S T L ahead h rise old =
    let next = h.next in
    let e = ap reserved_of h.log in
    let up = ahead.reserved in
    goes_by S T ahead (omega (arith, next, up, rise)) (omega (arith, next, e)) (λ i b there.
    elim there.0 [ inl inside ↦ inl (old i b (subst (λ (M : Log). Contains M b) h.log inside) there.1) | inr left ↦ no_pending S T h.pending b i left there.1 ])

between_goes : Laws → (S T : Standing) (L : Log) → IsAhead S → WellMade L → BetweenCalls S L → Reloads L T → Goes S T
between_goes laws S T L ahead well (inl same) h =
    let e = ap reserved_of same in
    reloads S T L ahead h (omega (arith, e)) (λ i b there is. (inl (subst (λ (M : Log). Contains M b) same there), is))
between_goes laws S T L ahead well (inr same) h =
    let e = ap reserved_of same in
    let up = whole_rises laws S.pending S.log (subst WellMade same well) in
    reloads S T L ahead h (omega (arith, e, up)) (λ i b there is. (out_of_whole S.pending S.log b (subst (λ (M : Log). Contains M b) same there), is))

inside_goes : Laws → (S T : Standing) (entries : List (List ℕ)) (L : Log) → IsAhead S → WellMade L → InsideCall S entries L → Reloads L T → Goes S T
inside_goes laws S T entries L ahead well (inl h) r = between_goes laws S T L ahead well h r
inside_goes laws S T entries L ahead well (inr (inl same)) r =
    let e = ap reserved_of same in
    let ready = subst WellMade same well in
    let up = whole_rises laws (needed_of S) S.log ready in
    reloads S T L ahead r (omega (arith, e, up)) (λ i b there is. (inl (ready_old laws S b i ready (subst (λ (M : Log). Contains M b) same there) is), is))
inside_goes laws S T entries L ahead well (inr (inr (body, batch, same))) r =
    let next = r.next in
    let e = ap reserved_of r.log in
    let up = next_reserved laws S entries body L well batch same in
    goes_by S T ahead (omega (arith, next, up, ahead.reserved)) (omega (arith, next, e)) (λ i b there.
    elim there.0 [
      | inl inside ↦ behind laws S T entries body L well batch same (omega (arith, next, up)) i b (subst (λ (M : Log). Contains M b) r.log inside) there.1
      | inr left ↦ no_pending S T r.pending b i left there.1
    ])

between_made : (S : Standing) (L : Log) → IsSound S → BetweenCalls S L → WellMade L
between_made S L sound (inl same) = subst WellMade (sym same) sound.log
between_made S L sound (inr same) = subst WellMade (sym same) (whole_made S.pending S.log sound.log sound.pending)

if_none : (o : Option (List ℕ)) (P : List ℕ → Type 0) → o ≡ None → IfSome o P
if_none None P e = tt
if_none (Some x) P e = cc

reloaded : (T : Standing) (L : Log) → WellMade L → Reloads L T → IsSound T
reloaded T L well h = record { log = subst WellMade (sym h.log) well; pending = if_none T.pending (λ body. WellMade (T.log ++ body ∷ [])) h.pending }

-- ---- histories

happens_sound : (tells : Bool) (S : Standing) (event : Event) (T : Standing) → IsSound S → Happens tells S event T → IsSound T
happens_sound tells S (turn call answer) T sound h = h.after
happens_sound tells S stop T sound h = reloaded T h.0 (between_made S h.0 sound h.1) h.2
happens_sound tells S (stop_inside entries) T sound h = reloaded T h.0 h.2 h.3

happens_goes : Laws → (tells : Bool) (S : Standing) (event : Event) (T : Standing) → IsSound S → IsAhead S → Happens tells S event T → Goes S T
happens_goes laws tells S (turn call answer) T sound ahead h = turns_go laws (IsTrue tells) S call answer T ahead h.after h.turns
happens_goes laws tells S stop T sound ahead h = between_goes laws S T h.0 ahead (between_made S h.0 sound h.1) h.1 h.2
happens_goes laws tells S (stop_inside entries) T sound ahead h = inside_goes laws S T entries h.0 ahead h.2 h.1 h.3

sound_after : (tells : Bool) (events : List Event) (S T : Standing) → IsSound S → History tells S events T → IsSound T
sound_after tells [] S T sound h = subst IsSound (sym h) sound
sound_after tells (e ∷ events) S T sound h = sound_after tells events h.0 T (happens_sound tells S e h.0 sound h.1) h.2

goes_after : Laws → (tells : Bool) (events : List Event) (S T : Standing) → IsSound S → IsAhead S → History tells S events T → Goes S T
goes_after laws tells [] S T sound ahead h = stays S T ahead h
goes_after laws tells (e ∷ events) S T sound ahead h =
    let one = happens_goes laws tells S e h.0 sound ahead h.1 in
    let rest = goes_after laws tells events h.0 T (happens_sound tells S e h.0 sound h.1) one.0 h.2 in
    let a = one.1.next in
    let b = rest.1.next in (
      rest.0,
      record {
        next = omega (arith, a, b);
        old = λ i x is. elim (rest.1.old i x is) [ inl earlier ↦ one.1.old i x earlier | inr above ↦ inr (omega (arith, a, above)) ];
      },
    )

-- a loaded registrar's next index is ahead
begins : Laws → (S : Standing) → IsLoaded S → IsAhead S
begins laws S h =
    let next = h.next in
    record {
      reserved = omega (arith, next);
      above = λ i b there. elim there.0 [
        | inl inside ↦ (let k = (within laws [] S.log b i h.sound.log inside there.1).1 in omega (arith, next, k))
        | inr left ↦ absurd (clash S.pending b h.pending left)
      ];
    }

pub logs_are_well_made : LogsAreWellMade
logs_are_well_made tells events old new loaded h = sound_after tells events old new loaded.sound h

pub no_index_twice : Laws → NoIndexTwice
no_index_twice laws tells before between S A B i a b loaded first second there other =
    let sound = sound_after tells before S A loaded.sound first in
    let ahead = (goes_after laws tells before S A loaded.sound (begins laws S loaded) first).0 in
    elim ((goes_after laws tells between A B sound ahead second).1.old i b other) [
      | inl earlier ↦ one_each laws A i a b sound there earlier
      | inr above ↦ (let k = ahead.above i a there in absurd (omega (arith, k, above)))
    ]
