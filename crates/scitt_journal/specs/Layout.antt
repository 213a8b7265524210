use Rattle.std.specs.Prelude.{◌≡◌, ◌≢◌, ℕ, ◌+◌, ◌^◌, ◌<◌, ◌≤◌, ◌⊎◌, List, [], ◌∷◌, ◌++◌, length, take, slice_index}
use Rattle.std.specs.Int.{w32, to_be_bytes, from_be_bytes}

-- a length in four bytes, the highest first
unfoldable pub size_bytes : ℕ → List ℕ
size_bytes n = to_be_bytes w32 n

-- the length that four bytes spell
unfoldable pub size_in : List ℕ → ℕ
size_in bytes = from_be_bytes w32 bytes

-- a record's length and its body
abbrev pub sized : List ℕ → List ℕ
sized body = size_bytes (length body) ++ body

-- open gates, each with its record
abbrev pub spelled : List (List ℕ) → List ℕ
spelled [] = []
spelled (body ∷ bodies) = 1 ∷ (sized body ++ spelled bodies)

-- the offsets of their gates, the first of them at this place
abbrev pub starts : ℕ → List (List ℕ) → List ℕ
starts at [] = []
starts at (body ∷ bodies) = at ∷ starts (at + 5 + length body) bodies

-- each length fits in four bytes
abbrev pub AllFit : List (List ℕ) → Type 0
AllFit [] = Unit {0}
AllFit (body ∷ bodies) = (length body < 2 ^ 32) × AllFit bodies

-- a file that has no log: fewer than six bytes, or a first gate that isn't open
abbrev pub NoLog : List ℕ → Type 0
NoLog bytes = (length bytes < 6) ⊎ (slice_index bytes 0 ≢ 1)

-- a file whose log is these records, in this order, and that has so many bytes after the first gate that isn't open
pub record RecordsOf (bytes : List ℕ) (bodies : List (List ℕ)) (rest : ℕ) : Type 0 where
  pub some : 0 < length bodies
  pub fit : AllFit bodies
  pub gate : ℕ
  pub shut : gate ≢ 1
  pub behind : List ℕ
  pub is : bytes ≡ spelled bodies ++ gate ∷ behind
  pub left : length behind ≡ rest

-- these bytes are too few for a record's length, its body and the next gate
abbrev pub Cut : List ℕ → Type 0
Cut tail = (length tail < 4) ⊎ (length tail ≤ 4 + size_in (take 4 tail))

-- a file of these records, and behind them, at this offset, an open gate with a record that passes the end
pub record CutAfter (bytes : List ℕ) (bodies : List (List ℕ)) (at : ℕ) : Type 0 where
  pub six : 6 ≤ length bytes
  pub fit : AllFit bodies
  pub tail : List ℕ
  pub cut : Cut tail
  pub is : bytes ≡ spelled bodies ++ 1 ∷ tail
  pub place : length (spelled bodies) ≡ at

-- a file whose first open gate with a record that passes the end stands at this offset
pub record Short (bytes : List ℕ) (at : ℕ) : Type 0 where
  pub bodies : List (List ℕ)
  pub after : CutAfter bytes bodies at

-- what is recovered from an image is exactly this list; it is empty where there is no log
abbrev pub Recovers : List ℕ → List (List ℕ) → Type 0
Recovers image bodies = (NoLog image × (bodies ≡ [])) ⊎ ((rest : ℕ) × RecordsOf image bodies rest)

-- the records before, or those with the one new record
abbrev pub OneOf : List (List ℕ) → List ℕ → List ℕ → Type 0
OneOf bodies body image = Recovers image bodies ⊎ Recovers image (bodies ++ body ∷ [])
