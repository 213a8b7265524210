-- A registration, put together from its parts.
use Rattle.std.proofs.Common.{◌≡◌, ℕ, ◌+◌, length, inl, inr, List, [], ◌∷◌, ◌++◌, Option, None, Some, sym, ap, ◌∙◌, subst}
use Rattle.scitt_disk.specs.Images.{Held, CrashLeaves}
use Rattle.scitt_disk.specs.Laws.{StretchesJoin}
use Rattle.statement.specs.Said.{Said}
use Rattle.log_replay.specs.Records.{Log, entries_of}
use Rattle.log_replay.specs.Steps.{batch_with}
use Rattle.log_replay.specs.Spelling.{entry_bytes}
use Rattle.log_replay.specs.Answers.{receipt_of}
use Rattle.log_replay.specs.Judging.{moment_after}
use Rattle.registrar.specs.Turns.{Standing, Settles, RepairFails, WriteFails, Adds, Stops, Registers, ruling_of, goes, new_entry, IsBatch, ready_log}
use Rattle.registrar.specs.declared.words.Outcome.{Outcome}
use Rattle.registrar.specs.declared.words.Outcome.TheVariants as answer
use Rattle.registrar.specs.Fits.{Registered, Between, Inside, Within, Leaves}
use Rattle.registrar.specs.declared.writing.Needed.{Needed}
use Rattle.registrar.specs.declared.writing.Batch.{Batch}
use Rattle.registrar.specs.Deciding.{IsReady}
use Rattle.registrar.proofs.Stretches.{weaker, joined}

-- the Batch is one of the new entry
pub is_new : (S : Standing) (s : Said) (m rule room : ℕ) (needed : Option Needed) (batch : Batch) (receipt : List ℕ) → IsReady S s m rule room needed batch receipt → IsBatch (new_entry S s m rule ∷ []) S.next batch.body.items
unfolding entry_bytes
is_new S s m rule room needed batch receipt ready =
    let sig = batch.signature.items in (
      sig,
      ready.batch_reads ∙ ap (λ (a : ℕ). Some (batch_with a batch.rule s batch.index sig)) ready.at_is ∙ ap (λ (r : ℕ). Some (batch_with (moment_after (entries_of S.log) m) r s batch.index sig)) ready.rule_is
          ∙ ap (λ (i : ℕ). Some (batch_with (moment_after (entries_of S.log) m) rule s i sig)) ready.index_is,
    )

pub admit_images : {D : Type 0} (held : D → Held) (old mid : Registered D) (last : Held) (s : Said) (m rule room : ℕ) (needed : Option Needed) (batch : Batch) (receipt : List ℕ) →
    mid ≡ record old { room = mid.room; places = mid.places; entry = mid.entry } → ruling_of old.standing s m ≡ Some (goes rule) →
    IsReady old.standing s m rule room needed batch receipt →
    ((entries : List (List ℕ)) → IsBatch entries mid.standing.next batch.body.items → CrashLeaves (Inside mid.standing entries) (held mid.disk) last) →
    CrashLeaves (Within old.standing s m) (held old.disk) last
admit_images {D = D} held old mid last s m rule room needed batch receipt same ruling ready images =
    let entries = new_entry old.standing s m rule ∷ [] in
    let standing : mid.standing ≡ old.standing = ap (λ (v : Registered D). v.standing) same in
    let disk : held mid.disk ≡ held old.disk = ap (λ (v : Registered D). held v.disk) same in
    let batch_is = is_new old.standing s m rule room needed batch receipt ready in
    let there = images entries (subst (λ (S : Standing). IsBatch entries S.next batch.body.items) (sym standing) batch_is) in
    let moved = subst (λ (S : Standing). CrashLeaves (Inside S entries) (held mid.disk) last) standing there in
    weaker (Inside old.standing entries) (Within old.standing s m) _ _ (λ image is. inr (rule, ruling, is)) (subst (λ (h : Held). CrashLeaves (Inside old.standing entries) h last) disk moved)

pub admit_stops : {D : Type 0} (old mid : Registered D) (new : Standing) (s : Said) (m rule room : ℕ) (needed : Option Needed) (batch : Batch) (receipt : List ℕ) →
    mid ≡ record old { room = mid.room; places = mid.places; entry = mid.entry } → ruling_of old.standing s m ≡ Some (goes rule) →
    IsReady old.standing s m rule room needed batch receipt →
    ((entries : List (List ℕ)) → IsBatch entries mid.standing.next batch.body.items → Stops mid.standing entries new) →
    WriteFails old.standing s m new
admit_stops {D = D} old mid new s m rule room needed batch receipt same ruling ready stops =
    let entries = new_entry old.standing s m rule ∷ [] in
    let standing : mid.standing ≡ old.standing = ap (λ (v : Registered D). v.standing) same in
    let batch_is = is_new old.standing s m rule room needed batch receipt ready in
    let there = stops entries (subst (λ (S : Standing). IsBatch entries S.next batch.body.items) (sym standing) batch_is) in
    (rule, ruling, subst (λ (S : Standing). Stops S entries new) standing there)

pub admit_adds : {D : Type 0} (old mid : Registered D) (new : Standing) (s : Said) (m rule room : ℕ) (needed : Option Needed) (batch : Batch) (receipt : List ℕ) →
    mid ≡ record old { room = mid.room; places = mid.places; entry = mid.entry } →
    IsReady old.standing s m rule room needed batch receipt →
    new ≡ record { log = ready_log mid.standing ++ batch.body.items ∷ []; next = mid.standing.next + 1; pending = None } →
    Adds old.standing (new_entry old.standing s m rule ∷ []) new × (receipt_of new.log (length (entries_of old.standing.log)) ≡ Some receipt)
admit_adds {D = D} old mid new s m rule room needed batch receipt same ready added =
    let standing : mid.standing ≡ old.standing = ap (λ (v : Registered D). v.standing) same in
    let log : new.log ≡ ready_log old.standing ++ batch.body.items ∷ [] = ap (λ (v : Standing). v.log) added ∙ ap (λ (S : Standing). ready_log S ++ batch.body.items ∷ []) standing in (
      record {
        body = batch.body.items;
        batch = is_new old.standing s m rule room needed batch receipt ready;
        log = log;
        next = ap (λ (v : Standing). v.next) added ∙ ap (λ (S : Standing). S.next + 1) standing;
        pending = ap (λ (v : Standing). v.pending) added;
      },
      ap (λ (L : Log). receipt_of L (length (entries_of old.standing.log))) log ∙ ready.receipt_is,
    )

-- a standing without its pending record
abbrev pub plain : Standing → Standing
plain S = record { log = S.log; next = S.next; pending = None }

settled_is : (old mid : Standing) → Settles old mid → mid ≡ plain old
settled_is old mid h = λ i. record { log = h.log i; next = h.next i; pending = h.pending i }

settles_old : (old new : Standing) → Settles (plain old) new → Settles old new
settles_old old new h = record { log = h.log; next = h.next; pending = h.pending }

stops_old : (old new : Standing) (entries : List (List ℕ)) → Stops (plain old) entries new → Stops old entries new
stops_old old new entries (inl h) = inl (record { needed = h.needed; is_needed = h.is_needed; log = h.log; next = h.next; pending = h.pending })
stops_old old new entries (inr h) = inr (record { log = h.log; next = h.next; pending = h.pending })

as_old : (Tells : Type 0) (old new : Standing) (s : Said) (m : ℕ) (o : Outcome) → Registers Tells (plain old) s m o new → (RepairFails (plain old) new → ⊥) → Registers Tells old s m o new
as_old Tells old new s m (answer.Denied given size moment) h never = (settles_old old new h.0, h.1, h.2, h.3)
as_old Tells old new s m (answer.Known i receipt) h never = (settles_old old new h.0, h.1, h.2)
as_old Tells old new s m (answer.LogFull entries bytes) h never = (settles_old old new h.0, h.1)
as_old Tells old new s m (answer.KeyExhausted next capacity) h never = (settles_old old new h.0, h.1)
as_old Tells old new s m (answer.Admitted i receipt) h never =
    (h.0, h.1, record { body = h.2.body; batch = h.2.batch; log = h.2.log; next = h.2.next; pending = h.2.pending }, h.3, h.4)
as_old Tells old new s m answer.OutOfMemory h never = (settles_old old new h.0, h.1)
as_old Tells old new s m answer.DiskFault (inl h) never = absurd (never h)
as_old Tells old new s m answer.DiskFault (inr (inl h)) never = inr (inl (h.0, h.1, settles_old old new h.2))
as_old Tells old new s m answer.DiskFault (inr (inr h)) never = inr (inr (h.0, h.1, stops_old old new _ h.2))
as_old Tells old new s m (answer.Changed number) h never = ((h.0.0, h.0.1, settles_old old new h.0.2), h.1)

pub registers_settled : (Tells : Type 0) (old mid new : Standing) (s : Said) (m : ℕ) (o : Outcome) → Settles old mid → Registers Tells mid s m o new → (RepairFails mid new → ⊥) → Registers Tells old s m o new
registers_settled Tells old mid new s m o settled turn never =
    let same = settled_is old mid settled in
    as_old Tells old new s m o (subst (λ (S : Standing). Registers Tells S s m o new) same turn) (λ h. never (subst (λ (S : Standing). RepairFails S new) (sym same) h))

-- what a crash leaves after the repair, it may leave of the whole
between_old : (old : Standing) (image : List ℕ) → Between (plain old) image → Between old image
between_old old image (L, inl same, r) = (L, inl same, r)
between_old old image (L, inr same, r) = (L, inl same, r)

inside_old : (old : Standing) (entries : List (List ℕ)) (image : List ℕ) → Inside (plain old) entries image → Inside old entries image
inside_old old entries image (L, inl (inl same), well, r) = (L, inl (inl same), well, r)
inside_old old entries image (L, inl (inr same), well, r) = (L, inl (inl same), well, r)
inside_old old entries image (L, inr h, well, r) = (L, inr h, well, r)

within_old : (old : Standing) (s : Said) (m : ℕ) (image : List ℕ) → Within (plain old) s m image → Within old s m image
within_old old s m image (inl h) = inl (between_old old image h)
within_old old s m image (inr h) = inr (h.0, h.1, inside_old old _ image h.2)

-- an image between two calls may be left by any answer
pub between_leaves : (o : Outcome) (S : Standing) (s : Said) (m : ℕ) (image : List ℕ) → Between S image → Leaves o S s m image
between_leaves answer.DiskFault S s m image is = inl is
between_leaves (answer.Admitted i receipt) S s m image is = inl is
between_leaves (answer.Known i receipt) S s m image is = is
between_leaves (answer.Denied rule size moment) S s m image is = is
between_leaves (answer.LogFull entries bytes) S s m image is = is
between_leaves (answer.KeyExhausted next capacity) S s m image is = is
between_leaves answer.OutOfMemory S s m image is = is
between_leaves (answer.Changed number) S s m image is = is

leaves_old : (o : Outcome) (old : Standing) (s : Said) (m : ℕ) (image : List ℕ) → Leaves o (plain old) s m image → Leaves o old s m image
leaves_old answer.DiskFault old s m image is = within_old old s m image is
leaves_old (answer.Admitted i receipt) old s m image is = within_old old s m image is
leaves_old (answer.Known i receipt) old s m image is = between_old old image is
leaves_old (answer.Denied rule size moment) old s m image is = between_old old image is
leaves_old (answer.LogFull entries bytes) old s m image is = between_old old image is
leaves_old (answer.KeyExhausted next capacity) old s m image is = between_old old image is
leaves_old answer.OutOfMemory old s m image is = between_old old image is
leaves_old (answer.Changed number) old s m image is = between_old old image is

pub whole_images : StretchesJoin → (o : Outcome) (old mid : Standing) (first middle last : Held) (s : Said) (m : ℕ) → Settles old mid →
    CrashLeaves (Between old) first middle → CrashLeaves (Leaves o mid s m) middle last → CrashLeaves (Leaves o old s m) first last
whole_images join o old mid first middle last s m settled one two =
    let moved = subst (λ (S : Standing). CrashLeaves (Leaves o S s m) middle last) (settled_is old mid settled) two in
    joined join (Leaves o old s m) first middle last
    (weaker (Between old) (Leaves o old s m) first middle (λ image is. between_leaves o old s m image is) one)
    (weaker (Leaves o (plain old) s m) (Leaves o old s m) middle last (λ image is. leaves_old o old s m image is) moved)

pub settled_leaves : (o : Outcome) (S : Standing) (s : Said) (m : ℕ) (old new : Held) → CrashLeaves (Between S) old new → CrashLeaves (Leaves o S s m) old new
settled_leaves o S s m old new was = weaker (Between S) (Leaves o S s m) old new (λ image is. between_leaves o S s m image is) was
