-- The line feeds of a head.
use Rattle.std.specs.Prelude.{ℕ, ◌+◌, ◌≤◌, List, [], ◌∷◌, ◌||◌, ◌==◌, if◌then◌else◌}
use Rattle.httparse.specs.Spans.{RequestExceeds}

abbrev pub feeds : List ℕ → ℕ
feeds [] = 0
feeds (b ∷ bs) = if b == 10 then feeds bs + 1 else feeds bs

-- from the first byte on that is neither CR nor LF
abbrev pub behind_blank : List ℕ → List ℕ
behind_blank [] = []
behind_blank (b ∷ bs) = if (b == 13 || b == 10) then behind_blank bs else b ∷ bs

abbrev pub counted : List ℕ → ℕ
counted bytes = feeds (behind_blank bytes)

-- where the parser says that there are too many fields, so many line feeds were read
abbrev pub TooManyAreCounted : Type 0
TooManyAreCounted = (buf : List ℕ) → RequestExceeds 32 buf → 34 ≤ counted buf
