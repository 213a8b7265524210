use Rattle.std.proofs.Common.{◌≡◌, drop}
use Rattle.std.specs.Prelude.{find, option_map}
use Rattle.relying_party.specs.Accepts.{is_service}
use Rattle.relying_party.proofs.named.among_services.Given as goal

abbrev pub invariant-loop-service : goal.invariant-loop-service
invariant-loop-service l =
    option_map (λ s. s.key) (find (is_service l.receipt.name l.receipt.kid) l.services) ≡ option_map (λ s. s.key) (find (is_service l.receipt.name l.receipt.kid) (drop l.service-index l.services))
