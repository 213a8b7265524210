use Rattle.std.proofs.Common.{◌≡◌, ◌++◌, map, drop, length}
use Rattle.std.specs.String.{string_bytes}
use Rattle.std.specs.Vec.Iter.{into_iter_items}
use Rattle.command_line.proofs.given.words_behind.Given as goal

abbrev pub invariant-loop-word : goal.invariant-loop-word
invariant-loop-word l =
    l.words ++ map string_bytes (into_iter_items l.given) ≡ map string_bytes (drop 1 (into_iter_items l.fn.given))

abbrev pub decreases-loop-word : goal.decreases-loop-word
decreases-loop-word l = length (into_iter_items l.given)
