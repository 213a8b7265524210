-- How often a clock was read, as clauses see it.
use Rattle.std.specs.Prelude.{ℕ, ◌+◌}
use Rattle.scitt_io.specs.declared.readings.Tally.{Tally, Nothing, More'}

abbrev pub times : Tally → ℕ
times Nothing = 0
times (More' _ before) = times before + 1
