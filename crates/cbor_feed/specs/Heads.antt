-- The head of a container, by what a reader wants of it (RFC 8949, 3).
use Rattle.std.specs.Prelude.{ℕ, List, Result, Ok, Err}
use Rattle.cbor_core.specs.declared.words.Why.{Why}
use Rattle.cbor_core.specs.declared.heads.Head.{Head}
use Rattle.cbor_core.specs.Head.{least}
use Rattle.cbor_feed.specs.declared.heads.Argument.{Argument}

-- of a head that was read, its argument and the least one that has no shorter head
abbrev pub argument_at : Result (Head × List ℕ) Why → Result (Argument × List ℕ) Why
argument_at (Ok (h, rest)) = Ok (record { value = h.argument; least = least h.size }, rest)
argument_at (Err why) = Err why
