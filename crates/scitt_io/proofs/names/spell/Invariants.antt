use Rattle.std.proofs.Common.{◌≡◌, take}
use Rattle.scitt_io.specs.Names.{name_of}
use Rattle.scitt_io.proofs.names.spell.Given as goal

abbrev pub invariant-loop-byte : goal.invariant-loop-byte
invariant-loop-byte l = name_of l.before.value ≡ take l.byte-index l.name
