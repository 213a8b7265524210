use Rattle.std.proofs.Common.{◌≡◌, ℕ, ◌+◌, ◌-◌, ◌^◌, ◌<◌, List, [], ◌∷◌, ◌++◌, length, drop, get_or, refl, ap, sym, ◌∙◌, inl, inr, arith, append_assoc, length-append, length-drop}
use Rattle.scitt_disk.specs.Images.{Epoch, Held, IsImage, ImageNow}
use Rattle.scitt_disk.specs.Changes.{put, with_range, after_write, after_sync, AfterFailedWrite}
use Rattle.scitt_journal.specs.Layout.{sized, spelled, AllFit, RecordsOf, Recovers, OneOf}
use Rattle.scitt_journal.specs.State.{ShutAfter, GateBefore, AllFrom, AllAt, Closed, Pending, MayLeave}
use Rattle.scitt_journal.proofs.Places.{image_behind, image_at, put_behind, put_at}
use Rattle.scitt_journal.proofs.Gates.{recovers_shut, one_of, opened_is, AllFit_push, length-sized, length-spelled_push}

-- ---- behind a closed gate
shut_behind : (epoch : Epoch) (image : List ℕ) (bodies : List (List ℕ)) → ShutAfter bodies epoch.synced → AllFrom (length (spelled bodies) + 1) epoch.written → IsImage epoch image → ShutAfter bodies image
shut_behind epoch image bodies was from is =
    record {
      gate = was.gate;
      shut = was.shut;
      behind = drop (length (spelled bodies) + 1) image;
      is = image_behind epoch image (spelled bodies) was.gate was.behind was.is from is;
    }

shut_recovers : (image : List ℕ) (bodies : List (List ℕ)) → AllFit bodies → ShutAfter bodies image → Recovers image bodies
shut_recovers image bodies fit is = recovers_shut image bodies is.gate is.behind fit is.shut is.is

from_place : (gate : ℕ) (bodies : List (List ℕ)) (ranges : List (ℕ × ℕ)) → length (spelled bodies) ≡ gate → AllFrom (gate + 1) ranges → AllFrom (length (spelled bodies) + 1) ranges
from_place gate bodies ranges place from = rw place from

pub closed_now : (held : Held) (gate : ℕ) (bodies : List (List ℕ)) (image : List ℕ) → Closed held gate bodies → ImageNow held image → Recovers image bodies
closed_now held gate bodies image was now =
    shut_recovers image bodies was.fit (shut_behind held.epoch image bodies was.synced (from_place gate bodies held.epoch.written was.place was.ranges) now)

-- the record is written behind the closed gate, and synced
written_behind : (bytes : List ℕ) (gate : ℕ) (bodies : List (List ℕ)) (record_bytes : List ℕ) → length (spelled bodies) ≡ gate → ShutAfter bodies bytes → ShutAfter bodies (put bytes (gate + 1) record_bytes)
written_behind bytes gate bodies record_bytes place was =
    record {
      gate = was.gate;
      shut = was.shut;
      behind = record_bytes ++ drop (length record_bytes) was.behind;
      is = ap (λ all. put all (gate + 1) record_bytes) was.is ∙ put_behind (spelled bodies) was.gate was.behind (gate + 1) record_bytes (omega arith);
    }

pub record_may_leave : (held : Held) (gate : ℕ) (bodies : List (List ℕ)) (record_bytes image : List ℕ) → Closed held gate bodies → MayLeave (gate + 1) record_bytes held image → Recovers image bodies
record_may_leave held gate bodies record_bytes image was (inl torn) =
    shut_recovers image bodies was.fit (shut_behind (with_range (gate + 1) (length record_bytes) held.epoch) image bodies was.synced (from_place gate bodies ((gate + 1, length record_bytes) ∷ held.epoch.written) was.place (omega arith, was.ranges)) torn)
record_may_leave held gate bodies record_bytes image was (inr whole) =
    shut_recovers image bodies was.fit (rw whole (written_behind held.seen gate bodies record_bytes was.place was.seen))

pub record_failed : (held new : Held) (gate n : ℕ) (bodies : List (List ℕ)) → Closed held gate bodies → AfterFailedWrite (gate + 1) n held new → Closed new gate bodies
record_failed held new gate n bodies was failed =
    record {
      fit = was.fit;
      place = was.place;
      seen = shut_behind (record { synced = held.seen; written = (gate + 1, n) ∷ [] }) new.seen bodies was.seen (from_place gate bodies ((gate + 1, n) ∷ []) was.place (omega arith, tt)) failed.seen;
      synced = elim failed.epoch [ inl same ↦ rw same was.synced | inr more ↦ rw more was.synced ];
      ranges = elim failed.epoch [ inl same ↦ rw same was.ranges | inr more ↦ rw more (omega arith, was.ranges) ];
    }

record_behind : (bytes : List ℕ) (gate : ℕ) (bodies : List (List ℕ)) (body : List ℕ) → length (spelled bodies) ≡ gate → (was : ShutAfter bodies bytes) → put bytes (gate + 1) (sized body ++ 0 ∷ []) ≡ spelled bodies ++ was.gate ∷ (sized body ++ 0 ∷ drop (length (sized body ++ 0 ∷ [])) was.behind)
record_behind bytes gate bodies body place was =
    let record_bytes : List ℕ = sized body ++ 0 ∷ [] in
    ap (λ all. put all (gate + 1) record_bytes) was.is ∙ put_behind (spelled bodies) was.gate was.behind (gate + 1) record_bytes (omega arith) ∙ ap (λ tail. spelled bodies ++ was.gate ∷ tail) (append_assoc (sized body) (0 ∷ []) (drop (length record_bytes) was.behind))

before_gate : (bytes : List ℕ) (gate : ℕ) (bodies : List (List ℕ)) (body : List ℕ) → length (spelled bodies) ≡ gate → ShutAfter bodies bytes → GateBefore bodies body (put bytes (gate + 1) (sized body ++ 0 ∷ []))
before_gate bytes gate bodies body place was =
    record {
      gate = was.gate;
      behind = drop (length (sized body ++ 0 ∷ [])) was.behind;
      is = record_behind bytes gate bodies body place was;
    }

pub record_done : (held : Held) (gate : ℕ) (bodies : List (List ℕ)) (body : List ℕ) → length body < 2 ^ 32 → Closed held gate bodies → Pending (after_sync (after_write (gate + 1) (sized body ++ 0 ∷ []) held)) gate bodies body
record_done held gate bodies body fits was =
    let whole = before_gate held.seen gate bodies body was.place was.seen in
    record { fit = was.fit; body_fits = fits; place = was.place; seen = whole; synced = whole; ranges = tt }

-- ---- the gate before a whole record
gate_image : (epoch : Epoch) (image : List ℕ) (bodies : List (List ℕ)) (body : List ℕ) → GateBefore bodies body epoch.synced → AllAt (length (spelled bodies)) epoch.written → IsImage epoch image → GateBefore bodies body image
gate_image epoch image bodies body was at is =
    record {
      gate = get_or image (length (spelled bodies)) 0;
      behind = was.behind;
      is = image_at epoch image (spelled bodies) was.gate (sized body ++ 0 ∷ was.behind) was.is at is;
    }

at_place : (gate : ℕ) (bodies : List (List ℕ)) (ranges : List (ℕ × ℕ)) → length (spelled bodies) ≡ gate → AllAt gate ranges → AllAt (length (spelled bodies)) ranges
at_place gate bodies ranges place at = rw place at

gate_one_of : (image : List ℕ) (bodies : List (List ℕ)) (body : List ℕ) → AllFit bodies → length body < 2 ^ 32 → GateBefore bodies body image → OneOf bodies body image
gate_one_of image bodies body fit fits is = one_of image bodies body is.gate is.behind fit fits is.is

put_gate : (bytes : List ℕ) (gate : ℕ) (bodies : List (List ℕ)) (body : List ℕ) (y : ℕ) → length (spelled bodies) ≡ gate → (was : GateBefore bodies body bytes) → put bytes gate (y ∷ []) ≡ spelled bodies ++ y ∷ (sized body ++ 0 ∷ was.behind)
put_gate bytes gate bodies body y place was =
    ap (λ all. put all gate (y ∷ [])) was.is ∙ put_at (spelled bodies) was.gate (sized body ++ 0 ∷ was.behind) gate y (sym place)

pub pending_now : (held : Held) (gate : ℕ) (bodies : List (List ℕ)) (body image : List ℕ) → Pending held gate bodies body → ImageNow held image → OneOf bodies body image
pending_now held gate bodies body image was now =
    gate_one_of image bodies body was.fit was.body_fits (gate_image held.epoch image bodies body was.synced (at_place gate bodies held.epoch.written was.place was.ranges) now)

pub gate_may_leave : (held : Held) (gate : ℕ) (bodies : List (List ℕ)) (body : List ℕ) (y : ℕ) (image : List ℕ) → Pending held gate bodies body → MayLeave gate (y ∷ []) held image → OneOf bodies body image
gate_may_leave held gate bodies body y image was (inl torn) =
    gate_one_of image bodies body was.fit was.body_fits (gate_image (with_range gate 1 held.epoch) image bodies body was.synced (at_place gate bodies ((gate, 1) ∷ held.epoch.written) was.place (refl, refl, was.ranges)) torn)
gate_may_leave held gate bodies body y image was (inr whole) =
    one_of image bodies body y was.seen.behind was.fit was.body_fits (whole ∙ put_gate held.seen gate bodies body y was.place was.seen)

pub gate_failed : (held new : Held) (gate : ℕ) (bodies : List (List ℕ)) (body : List ℕ) → Pending held gate bodies body → AfterFailedWrite gate 1 held new → Pending new gate bodies body
gate_failed held new gate bodies body was failed =
    record {
      fit = was.fit;
      body_fits = was.body_fits;
      place = was.place;
      seen = gate_image (record { synced = held.seen; written = (gate, 1) ∷ [] }) new.seen bodies body was.seen (at_place gate bodies ((gate, 1) ∷ []) was.place (refl, refl, tt)) failed.seen;
      synced = elim failed.epoch [ inl same ↦ rw same was.synced | inr more ↦ rw more was.synced ];
      ranges = elim failed.epoch [ inl same ↦ rw same was.ranges | inr more ↦ rw more (refl, refl, was.ranges) ];
    }

pub gate_opened : (held : Held) (gate : ℕ) (bodies : List (List ℕ)) (body : List ℕ) → Pending held gate bodies body → Closed (after_sync (after_write gate (1 ∷ []) held)) (gate + (length body + 5)) (bodies ++ body ∷ [])
gate_opened held gate bodies body was =
    let whole : ShutAfter (bodies ++ body ∷ []) (put held.seen gate (1 ∷ [])) = record {
      gate = 0;
      shut = λ e. cc;
      behind = was.seen.behind;
      is = opened_is (put held.seen gate (1 ∷ [])) bodies body 0 was.seen.behind (put_gate held.seen gate bodies body 1 was.place was.seen);
    } in
    record {
      fit = AllFit_push bodies body was.fit was.body_fits;
      place = omega (arith, length-spelled_push bodies body, was.place);
      seen = whole;
      synced = whole;
      ranges = tt;
    }

pub gate_closed : (held : Held) (gate : ℕ) (bodies : List (List ℕ)) (body : List ℕ) → Pending held gate bodies body → Closed (after_sync (after_write gate (0 ∷ []) held)) gate bodies
gate_closed held gate bodies body was =
    let whole : ShutAfter bodies (put held.seen gate (0 ∷ [])) = record {
      gate = 0;
      shut = λ e. cc;
      behind = sized body ++ 0 ∷ was.seen.behind;
      is = put_gate held.seen gate bodies body 0 was.place was.seen;
    } in
    record { fit = was.fit; place = was.place; seen = whole; synced = whole; ranges = tt }

-- ---- the number of bytes behind the last gate, with a record more
both_written : (bytes : List ℕ) (gate : ℕ) (bodies : List (List ℕ)) (body : List ℕ) → length (spelled bodies) ≡ gate → (was : ShutAfter bodies bytes) → put (put bytes (gate + 1) (sized body ++ 0 ∷ [])) gate (1 ∷ []) ≡ spelled (bodies ++ body ∷ []) ++ 0 ∷ drop (length (sized body ++ 0 ∷ [])) was.behind
both_written bytes gate bodies body place was =
    let behind : List ℕ = drop (length (sized body ++ 0 ∷ [])) was.behind in
    opened_is (put (put bytes (gate + 1) (sized body ++ 0 ∷ [])) gate (1 ∷ [])) bodies body 0 behind (ap (λ all. put all gate (1 ∷ [])) (record_behind bytes gate bodies body place was) ∙ put_at (spelled bodies) was.gate (sized body ++ 0 ∷ behind) gate 1 (sym place))

records_opened : (bytes : List ℕ) (gate rest left : ℕ) (bodies : List (List ℕ)) (body : List ℕ) → AllFit bodies → length body < 2 ^ 32 → length (spelled bodies) ≡ gate → ShutAfter bodies bytes → rest + 1 + gate ≡ length bytes → left ≡ rest - (length body + 5) → RecordsOf (put (put bytes (gate + 1) (sized body ++ 0 ∷ [])) gate (1 ∷ [])) (bodies ++ body ∷ []) left
records_opened bytes gate rest left bodies body fit fits place was long e =
    record {
      some = omega (arith, length-append bodies (body ∷ []));
      fit = AllFit_push bodies body fit fits;
      gate = 0;
      shut = λ e. cc;
      behind = drop (length (sized body ++ 0 ∷ [])) was.behind;
      is = both_written bytes gate bodies body place was;
      left = omega (arith, length-drop (length (sized body ++ 0 ∷ [])) was.behind, length-append (sized body) (0 ∷ []), length-sized body, ap length was.is, length-append (spelled bodies) (was.gate ∷ was.behind));
    }

pub records_after : (old middle last : Held) (gate rest left : ℕ) (bodies : List (List ℕ)) (body bytes : List ℕ) → Closed old gate bodies → length body < 2 ^ 32 → bytes ≡ sized body ++ 0 ∷ [] → middle ≡ after_sync (after_write (gate + 1) bytes old) → last ≡ after_sync (after_write gate (1 ∷ []) middle) → rest + 1 + gate ≡ length old.seen → left ≡ rest - (length body + 5) → RecordsOf last.seen (bodies ++ body ∷ []) left
records_after old middle last gate rest left bodies body bytes was fits spelled_so written opened long e =
    rw (opened, written, spelled_so) (records_opened old.seen gate rest left bodies body was.fit fits was.place was.seen long e)

pub records_long : (bytes : List ℕ) (gate rest : ℕ) (bodies : List (List ℕ)) → length (spelled bodies) ≡ gate → RecordsOf bytes bodies rest → rest + 1 + gate ≡ length bytes
records_long bytes gate rest bodies place was =
    omega (arith, ap length was.is, length-append (spelled bodies) (was.gate ∷ was.behind), was.left)
