use Rattle.std.proofs.Common.{◌≡◌, ◌++◌, take, drop}
use Rattle.http_wire.specs.Tokens.{before}
use Rattle.http_wire.proofs.tokens.first_part.Given as goal

abbrev pub invariant-loop-i : goal.invariant-loop-i
invariant-loop-i l = before l.stop l.text ≡ take l.i l.text ++ before l.stop (drop l.i l.text)
