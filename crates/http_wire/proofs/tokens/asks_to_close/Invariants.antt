use Rattle.std.proofs.Common.{◌≡◌, length}
use Rattle.http_wire.specs.Tokens.{closes}
use Rattle.http_wire.proofs.tokens.asks_to_close.Given as goal

abbrev pub invariant-loop-rest : goal.invariant-loop-rest
invariant-loop-rest l = closes l.value ≡ closes l.rest

abbrev pub decreases-loop-rest : goal.decreases-loop-rest
decreases-loop-rest l = length l.rest
