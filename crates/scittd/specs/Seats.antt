-- The seats of a server that has started.
use Rattle.std.specs.Prelude.{◌≡◌, ◌<◌, All, length}
use Rattle.turn_lock.specs.Calls.{Caller}
use Rattle.scittd.specs.declared.serving.Server.{Server}

-- there is a seat, and each is one of the service
pub record IsSeated {D : Type 0} (s : Server D) : Type 0 where
  pub some : 0 < length s.seats.items
  pub own : All (λ (seat : Caller). seat.lock ≡ s.service) s.seats.items
