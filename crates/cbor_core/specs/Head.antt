-- The head of an item (RFC 8949, 3): a byte of three bits major type and five bits additional information, and the bytes
-- of an argument that the information has no room for.
use Rattle.std.specs.Prelude.{◌≡◌, ℕ, ◌+◌, ◌*◌, ◌/◌, ◌%◌, ◌^◌, ◌<◌, ◌≤◌, Bool, true, false, ◌&&◌, ◌==◌, List, [], ◌∷◌, length, take, drop, Result, Ok, Err, nat_lt, if◌then◌else◌}
use Rattle.std.specs.Int.{Width, w8, w16, w32, w64, byte_len, to_be_bytes, from_be_bytes}
use Rattle.cbor_core.specs.declared.words.Grammar.{Grammar}
use Rattle.cbor_core.specs.declared.words.Grammar.TheVariants.{Strict, Wide}
use Rattle.cbor_core.specs.declared.words.Why.{Why}
use Rattle.cbor_core.specs.declared.words.Why.TheVariants.{Truncated, Reserved, Indefinite}
use Rattle.cbor_core.specs.declared.heads.Size.{Size}
use Rattle.cbor_core.specs.declared.heads.Size.TheVariants.{Within, One, Two, Four, Eight}
use Rattle.cbor_core.specs.declared.heads.Head.{Head}

-- the additional information of an argument
abbrev pub information : Size → ℕ → ℕ
information Within n = n
information One n = 24
information Two n = 25
information Four n = 26
information Eight n = 27

-- the bytes of an argument behind the first byte, the highest first
abbrev pub argument_bytes : Size → ℕ → List ℕ
argument_bytes Within n = []
argument_bytes One n = to_be_bytes w8 n
argument_bytes Two n = to_be_bytes w16 n
argument_bytes Four n = to_be_bytes w32 n
argument_bytes Eight n = to_be_bytes w64 n

-- arguments of a size are below this
abbrev pub limit : Size → ℕ
limit Within = 24
limit One = 2 ^ 8
limit Two = 2 ^ 16
limit Four = 2 ^ 32
limit Eight = 2 ^ 64

-- from this on an argument has no shorter size (RFC 8949, 4.2.1)
abbrev pub least : Size → ℕ
least Within = 0
least One = 24
least Two = 2 ^ 8
least Four = 2 ^ 16
least Eight = 2 ^ 32

-- an argument may stand in this size: strict only in the shortest one
abbrev pub MayStand : Grammar → Size → ℕ → Type 0
MayStand Strict size n = (least size ≤ n) × (n < limit size)
MayStand Wide size n = n < limit size

-- the bytes of a head
abbrev pub head : ℕ → Size → ℕ → List ℕ
head major size n = (32 * major + information size n) ∷ argument_bytes size n

-- a text is a head of this major type and argument
abbrev pub IsHead : Grammar → ℕ → ℕ → List ℕ → Type 0
IsHead g major n text = (size : Size) × MayStand g size n × (text ≡ head major size n)

-- a simple value below 32 in two bytes is reserved (RFC 8949, 3.3)
abbrev pub is_reserved : ℕ → ℕ → Bool
is_reserved first n = first == 248 && nat_lt n 32

-- the width of an argument behind the first byte; within the first byte there is none
abbrev pub width : Size → Width
width Within = w8
width One = w8
width Two = w16
width Four = w32
width Eight = w64

-- the argument has bytes of its own
abbrev pub is_own : Size → Bool
is_own Within = false
is_own One = true
is_own Two = true
is_own Four = true
is_own Eight = true

-- the head with its argument in so many bytes, and what follows it
abbrev pub sized_by : ℕ → Size → Width → List ℕ → Result (Head × List ℕ) Why
sized_by first size w rest =
    if nat_lt (length rest) (byte_len w) then Err Truncated
    else (if is_reserved first (from_be_bytes w (take (byte_len w) rest)) then Err Reserved
    else Ok (record { major = first / 32; size = size; argument = from_be_bytes w (take (byte_len w) rest) }, drop (byte_len w) rest))

abbrev pub sized : ℕ → Size → List ℕ → Result (Head × List ℕ) Why
sized first size rest = sized_by first size (width size) rest

-- the head at the front of the bytes and what follows it, or the first fault of a head
unfoldable pub head_at : List ℕ → Result (Head × List ℕ) Why
head_at [] = Err Truncated
head_at (b ∷ rest) =
    if nat_lt (b % 32) 24 then Ok (record { major = b / 32; size = Within; argument = b % 32 }, rest)
    else (if b % 32 == 24 then sized b One rest
    else (if b % 32 == 25 then sized b Two rest
    else (if b % 32 == 26 then sized b Four rest
    else (if b % 32 == 27 then sized b Eight rest
    else (if nat_lt (b % 32) 31 then Err Reserved
    else Err Indefinite)))))
