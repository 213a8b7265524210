use Rattle.std.proofs.Common.{◌≡◌, ℕ, ◌+◌, ◌^◌, ◌<◌, List, [], ◌∷◌, ◌++◌, length, Result, Ok, Err, OnErr, is_ok, if◌then◌else◌, ap, sym, ◌∙◌, arith}
use Rattle.scitt_disk.specs.Images.{Held, CrashLeaves}
use Rattle.scitt_disk.specs.Changes.{after_write, after_sync}
use Rattle.scitt_journal.specs.Layout.{sized, spelled, starts, RecordsOf}
use Rattle.scitt_journal.specs.Log.{Log}
use Rattle.scitt_journal.specs.State.{ShutAfter, AtRest, InDoubt, Closed, Pending, Loaded}
use Rattle.scitt_journal.specs.Stops.{Finds}
use Rattle.scitt_journal.proofs.Gates.{starts_push, length-starts}
use Rattle.scitt_journal.proofs.Stages.{record_done}

-- what holds of a journal as it is passed holds of its fields as they are opened, and the other way round
pub rest_inside : {D : Type 0} (held : D → Held) (view log : Log D) (bodies : List (List ℕ)) → view ≡ log → AtRest held log bodies → AtRest held view bodies
rest_inside held view log bodies e was = rw e was

pub doubt_inside : {D : Type 0} (held : D → Held) (view log : Log D) (bodies : List (List ℕ)) (body : List ℕ) → view ≡ log → InDoubt held log bodies body → InDoubt held view bodies body
doubt_inside held view log bodies body e was = rw e was

pub records_inside : {D : Type 0} (held : D → Held) (view log : Log D) (bodies : List (List ℕ)) → view ≡ log → RecordsOf (held log.disk).seen bodies log.rest → RecordsOf (held view.disk).seen bodies view.rest
records_inside held view log bodies e was = rw e was

pub long_inside : {D : Type 0} (held : D → Held) (view log : Log D) → view ≡ log → log.rest + 1 ≡ length (held log.disk).seen → view.rest + 1 ≡ length (held view.disk).seen
long_inside held view log e was = rw e was

pub strays_outside : {D : Type 0} (strays : D → ℕ) (view log : Log D) (now : ℕ) → view ≡ log → now ≡ strays view.disk → now ≡ strays log.disk
strays_outside strays view log now e stays = rw e at stays

pub leaves_outside : {D : Type 0} (held : D → Held) (view log : Log D) (new : Held) (P : List ℕ → Type 0) → view ≡ log → CrashLeaves P (held view.disk) new → CrashLeaves P (held log.disk) new
leaves_outside held view log new P e leaves = rw e at leaves

pub on_err : {T E P : Type 0} (r : Result T E) → P → OnErr r P
on_err (Ok x) p = tt
on_err (Err x) p = p

pub pending_after : (old middle : Held) (gate : ℕ) (bodies : List (List ℕ)) (body bytes : List ℕ) → bytes ≡ sized body ++ 0 ∷ [] → middle ≡ after_sync (after_write (gate + 1) bytes old) → length body < 2 ^ 32 → Closed old gate bodies → Pending middle gate bodies body
pending_after old middle gate bodies body bytes spelled_so e fits was =
    rw (e, spelled_so) (record_done old gate bodies body fits was)

pub offsets_after : {T E : Type 0} (r : Result T E) (x : T) (old new : List ℕ) (gate : ℕ) (bodies : List (List ℕ)) (body : List ℕ) → r ≡ Ok x → new ≡ (if is_ok r then old ++ gate ∷ [] else old) → old ≡ starts 0 bodies → length (spelled bodies) ≡ gate → new ≡ starts 0 (bodies ++ body ∷ [])
offsets_after r x old new gate bodies body ok e was place =
    let pushed : new ≡ old ++ gate ∷ [] = rw ok at e in
    pushed ∙ ap (λ list. list ++ gate ∷ []) was ∙ ap (λ at. starts 0 bodies ++ at ∷ []) (omega (arith, place)) ∙ sym (starts_push 0 bodies body)

-- the number of records, before and after one more
pub count_inside : {D : Type 0} (view log : Log D) → view ≡ log → view.count ≡ log.count
count_inside {D = D} view log e = ap (λ (one : Log D). one.count) e

pub count_after : (offsets : List ℕ) (bodies : List (List ℕ)) → offsets ≡ starts 0 bodies → length offsets ≡ length bodies
count_after offsets bodies are = ap length are ∙ length-starts 0 bodies

-- the records that were found, after the sync that came first
pub found_at_rest : {D : Type 0} (held : D → Held) (old : Held) (log : Log D) → held log.disk ≡ after_sync old → Finds old.seen log.marks.offsets log.marks.gate log.rest → log.count ≡ length log.marks.offsets → Loaded held old.seen log
found_at_rest held old log synced found count =
    let records = found.records in
    let seen : ShutAfter found.bodies old.seen = record {
      gate = records.gate;
      shut = records.shut;
      behind = records.behind;
      is = records.is;
    } in
    let closed : Closed (after_sync old) log.marks.gate found.bodies = record {
      fit = records.fit;
      place = found.place;
      seen = seen;
      synced = seen;
      ranges = tt;
    } in
    record {
      bodies = found.bodies;
      records = records;
      at_rest = record {
        closed = rw synced closed;
        offsets = found.starts_so;
        count = count ∙ count_after log.marks.offsets found.bodies found.starts_so;
      };
    }
