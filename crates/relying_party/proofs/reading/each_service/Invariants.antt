use Rattle.std.proofs.Common.{◌≡◌, [], drop}
use Rattle.relying_party.specs.TrustFiles.{service_in, each_onto}
use Rattle.relying_party.proofs.reading.each_service.Given as goal

abbrev pub invariant-loop-item : goal.invariant-loop-item
invariant-loop-item l = each_onto service_in l.services (drop l.item-index l.items) ≡ each_onto service_in [] l.items
