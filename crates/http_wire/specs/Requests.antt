-- Requests of a list of bytes, and the fault of a head behind them.
use Rattle.std.specs.Prelude.{◌≡◌, ℕ, ◌<◌, ◌≤◌, ◌⊎◌, List, [], ◌∷◌, ◌++◌, length, take, Bool, false, Ok, Err, if◌then◌else◌, ◌==◌, ◌||◌, codes}
use Rattle.std.specs.Str.{bytes_eq}
use Rattle.httparse.specs.Grammar.{RequestHead}
use Rattle.http_wire.specs.Heads.{IsHead, Hopeless, Unfinished, body_length, pairs_of, is_head_method, is_cose, has_close}
use Rattle.http_wire.specs.declared.request.HeadFault.{HeadFault}
use Rattle.http_wire.specs.declared.request.HeadFault.TheVariants.{BadHead, HeadTooLong}
use Rattle.http_wire.specs.declared.request.Method.{Method}
use Rattle.http_wire.specs.declared.request.Method.TheVariants.{Get, Post, Head, Other}
use Rattle.http_wire.specs.declared.request.Request.{Request}

abbrev pub method_of : List ℕ → Method
method_of m =
    if bytes_eq m (codes "GET") then Get else (if bytes_eq m (codes "POST") then Post else (if bytes_eq m (codes "HEAD") then Head else Other))

-- the request asks to close: it is HTTP/1.0, or a Connection field says so
abbrev pub asks_close : RequestHead → Bool
asks_close h = h.minor == 0 || has_close (pairs_of h)

-- the request of a head and a body
abbrev pub request_of : RequestHead → List ℕ → Request
request_of h body = record { method = method_of h.method; target = h.target; cose = is_cose (pairs_of h); body = body; close = asks_close h }

-- the bytes begin with that request, and then come the rest
pub record IsRequest (bytes : List ℕ) (q : Request) (rest : List ℕ) : Type 0 where
  pub head : RequestHead
  pub body : List ℕ
  pub reads : IsHead bytes head (body ++ rest)
  pub whole : body_length head.method (pairs_of head) ≡ Ok (length body)
  pub is : q ≡ request_of head body

-- the bytes are these requests, and then the rest
abbrev pub ReadsRequests : List ℕ → List Request → List ℕ → Type 0
ReadsRequests bytes [] rest = bytes ≡ rest
ReadsRequests bytes (q ∷ qs) rest = (middle : List ℕ) × IsRequest bytes q middle × ReadsRequests middle qs rest

-- the fault that a whole head at the front has by its fields
pub record FaultByFields (bytes : List ℕ) (fault : HeadFault) (of_head : Bool) : Type 0 where
  pub head : RequestHead
  pub rest : List ℕ
  pub reads : IsHead bytes head rest
  pub why : body_length head.method (pairs_of head) ≡ Err fault
  pub method : of_head ≡ is_head_method head.method

-- the bytes have that fault of a head at their front; of_head says that the head was read whole and its method is HEAD
abbrev pub IsHeadFault : List ℕ → HeadFault → Bool → Type 0
IsHeadFault bytes HeadTooLong of_head =
    (of_head ≡ false) × (8192 ≤ length bytes) × Unfinished (take 8192 bytes)
IsHeadFault bytes BadHead of_head = (Hopeless bytes × (of_head ≡ false)) ⊎ FaultByFields bytes BadHead of_head
IsHeadFault bytes fault of_head = FaultByFields bytes fault of_head

-- a head at the front whose body isn't whole
pub record LacksBody (bytes : List ℕ) : Type 0 where
  pub head : RequestHead
  pub rest : List ℕ
  pub size : ℕ
  pub reads : IsHead bytes head rest
  pub wants : body_length head.method (pairs_of head) ≡ Ok size
  pub short : length rest < size

-- the bytes end inside a request
abbrev pub EndsInside : List ℕ → Type 0
EndsInside bytes = ((0 < length bytes) × (length bytes < 8192) × Unfinished bytes) ⊎ LacksBody bytes
