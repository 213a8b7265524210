use Rattle.std.proofs.Common.{◌≡◌, drop}
use Rattle.std.specs.Prelude.{find, option_map}
use Rattle.relying_party.specs.Accepts.{is_issuer}
use Rattle.relying_party.proofs.judging.among_issuers.Given as goal

abbrev pub invariant-loop-issuer : goal.invariant-loop-issuer
invariant-loop-issuer l =
    option_map (λ i. i.key) (find (is_issuer l.statement.issuer l.statement.kid) l.issuers) ≡ option_map (λ i. i.key) (find (is_issuer l.statement.issuer l.statement.kid) (drop l.issuer-index l.issuers))
