-- What is read from a head before its body.
use Rattle.std.specs.Prelude.{◌≡◌, ℕ, List, ◌++◌, length, Result, Ok, Err, Option, ⊤}
use Rattle.std.specs.Io.KnownBytes.{Consumes}
use Rattle.httparse.specs.Grammar.{RequestHead}
use Rattle.http_wire.specs.declared.request.Stop.{Stop}
use Rattle.http_wire.specs.declared.request.Stop.TheVariants as stop
use Rattle.http_wire.specs.declared.request.Request.{Request}
use Rattle.http_wire.specs.declared.wire.Parts.{Parts}
use Rattle.http_wire.specs.Heads.{body_length, pairs_of, is_head_method, is_cose}
use Rattle.http_wire.specs.Requests.{method_of, asks_close, IsRequest}

-- the parts are those of the head
pub record ArePartsOf (h : RequestHead) (p : Parts) : Type 0 where
  pub size : body_length h.method (pairs_of h) ≡ Ok p.size
  pub method : p.method ≡ method_of h.method
  pub target : p.target ≡ h.target
  pub cose : p.cose ≡ is_cose (pairs_of h)
  pub close : p.close ≡ asks_close h

abbrev pub ReadsParts : RequestHead → Result Parts Stop → Type 0
ReadsParts h (Ok p) = ArePartsOf h p
ReadsParts h (Err (stop.Refused fault of_head)) = (body_length h.method (pairs_of h) ≡ Err fault) × (of_head ≡ is_head_method h.method)
ReadsParts h (Err stop.OutOfMemory) = ⊤
ReadsParts h (Err _) = ⊥

-- some bytes were taken, and those behind the head and these are the body and what is held
pub record TakesBody (behind : List ℕ) (size : ℕ) (left left' : Option (List ℕ)) (body held : List ℕ) : Type 0 where
  pub bytes : List ℕ
  pub taken : Consumes left left' bytes
  pub whole : behind ++ bytes ≡ body ++ held
  pub size_is : length body ≡ size

pub record TakesRequest (old : List ℕ) (left left' : Option (List ℕ)) (q : Request) (new : List ℕ) : Type 0 where
  pub bytes : List ℕ
  pub taken : Consumes left left' bytes
  pub request : IsRequest (old ++ bytes) q new
