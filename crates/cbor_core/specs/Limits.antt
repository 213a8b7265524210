-- The limits of the profile on an item.
use Rattle.std.specs.Prelude.{ℕ}

-- the most bytes of a byte string or of a text
abbrev pub longest_string : ℕ
longest_string = 4198400

-- the most items of an array, and the most pairs of a map
abbrev pub most_parts : ℕ
most_parts = 4096

-- the most arrays, maps and tags that are open at once, each inside the one before
abbrev pub most_containers : ℕ
most_containers = 16
