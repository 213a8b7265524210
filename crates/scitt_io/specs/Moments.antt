-- What a reading takes from the moments that a clock tells.
use Rattle.std.specs.Prelude.{◌≡◌, ℕ, ◌+◌, Option, None, Some, Result, MatchResult, ⊤}

-- the first of the moments to come was given, and those behind it are to come; or none was
abbrev pub Moves : (ℕ → Option ℕ) → Option (ℕ → Option ℕ) → ℕ → Type 0
Moves old None m = old 0 ≡ Some m
Moves old (Some new) m = (old 0 ≡ Some m) × ((k : ℕ) → new k ≡ old (k + 1))

abbrev pub Stays : (ℕ → Option ℕ) → Option (ℕ → Option ℕ) → Type 0
Stays old None = ⊤
Stays old (Some new) = (k : ℕ) → new k ≡ old k

abbrev pub Ticks : {E : Type 0} → Option (ℕ → Option ℕ) → Option (ℕ → Option ℕ) → Result ℕ E → Type 0
Ticks None new result = ⊤
Ticks (Some old) new result = MatchResult result (Moves old new) (λ _. Stays old new)
