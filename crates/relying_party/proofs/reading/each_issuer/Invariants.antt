use Rattle.std.proofs.Common.{◌≡◌, [], drop}
use Rattle.relying_party.specs.TrustFiles.{issuer_in, each_onto}
use Rattle.relying_party.proofs.reading.each_issuer.Given as goal

abbrev pub invariant-loop-item : goal.invariant-loop-item
invariant-loop-item l = each_onto issuer_in l.issuers (drop l.item-index l.items) ≡ each_onto issuer_in [] l.items
