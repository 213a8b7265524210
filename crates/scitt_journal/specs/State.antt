use Rattle.std.specs.Prelude.{◌≡◌, ◌≢◌, ℕ, ◌+◌, ◌^◌, ◌<◌, ◌≤◌, ◌⊎◌, List, [], ◌∷◌, ◌++◌, length}
use Rattle.scitt_disk.specs.Images.{Held, IsImage}
use Rattle.scitt_disk.specs.Changes.{put, with_range}
use Rattle.scitt_journal.specs.Layout.{spelled, sized, starts, AllFit, RecordsOf}
use Rattle.scitt_journal.specs.Log.{Log}

-- these records, and behind them a gate that isn't open
pub record ShutAfter (bodies : List (List ℕ)) (bytes : List ℕ) : Type 0 where
  pub gate : ℕ
  pub shut : gate ≢ 1
  pub behind : List ℕ
  pub is : bytes ≡ spelled bodies ++ gate ∷ behind

-- these records, a gate that may be open or not, this record whole, and behind it a closed gate
pub record GateBefore (bodies : List (List ℕ)) (body bytes : List ℕ) : Type 0 where
  pub gate : ℕ
  pub behind : List ℕ
  pub is : bytes ≡ spelled bodies ++ gate ∷ (sized body ++ 0 ∷ behind)

-- each range begins at this place or later
abbrev pub AllFrom : ℕ → List (ℕ × ℕ) → Type 0
AllFrom at [] = Unit {0}
AllFrom at (range ∷ ranges) = (at ≤ range.0) × AllFrom at ranges

-- each range is this one place
abbrev pub AllAt : ℕ → List (ℕ × ℕ) → Type 0
AllAt at [] = Unit {0}
AllAt at (range ∷ ranges) = (range.0 ≡ at) × (range.1 ≡ 1) × AllAt at ranges

-- the disk holds these records, and since the last sync nothing was written but behind the gate that ends them
pub record Closed (held : Held) (gate : ℕ) (bodies : List (List ℕ)) : Type 0 where
  pub fit : AllFit bodies
  pub place : length (spelled bodies) ≡ gate
  pub seen : ShutAfter bodies held.seen
  pub synced : ShutAfter bodies held.epoch.synced
  pub ranges : AllFrom (gate + 1) held.epoch.written

-- the disk holds these records and one more behind the gate, whole, and since the last sync nothing was written but
-- that gate
pub record Pending (held : Held) (gate : ℕ) (bodies : List (List ℕ)) (body : List ℕ) : Type 0 where
  pub fit : AllFit bodies
  pub body_fits : length body < 2 ^ 32
  pub place : length (spelled bodies) ≡ gate
  pub seen : GateBefore bodies body held.seen
  pub synced : GateBefore bodies body held.epoch.synced
  pub ranges : AllAt gate held.epoch.written

-- a journal at rest: its records are these
pub record AtRest {D : Type 0} (held : D → Held) (log : Log D) (bodies : List (List ℕ)) : Type 0 where
  pub closed : Closed (held log.disk) log.marks.gate bodies
  pub offsets : log.marks.offsets ≡ starts 0 bodies
  pub count : log.count ≡ length bodies

-- a journal in need of repair: its records are these, and one that may or may not count
pub record InDoubt {D : Type 0} (held : D → Held) (log : Log D) (bodies : List (List ℕ)) (body : List ℕ) : Type 0 where
  pub pending : Pending (held log.disk) log.marks.gate bodies body
  pub offsets : log.marks.offsets ≡ starts 0 bodies
  pub count : log.count ≡ length bodies

-- what a crash may leave during a write at this place, or after a sync behind it
abbrev pub MayLeave : ℕ → List ℕ → Held → List ℕ → Type 0
MayLeave at bytes held image =
    IsImage (with_range at (length bytes) held.epoch) image ⊎ (image ≡ put held.seen at bytes)

-- a journal at rest, whose records are those of these bytes
pub record Loaded {D : Type 0} (held : D → Held) (bytes : List ℕ) (log : Log D) : Type 0 where
  pub bodies : List (List ℕ)
  pub records : RecordsOf bytes bodies log.rest
  pub at_rest : AtRest held log bodies
