-- What a search for the fields of a name finds.
use Rattle.std.specs.Prelude.{◌≡◌, ℕ, List, [], ◌∷◌, Option, Some, None}
use Rattle.httparse.specs.declared.spans.Span.{Span}
use Rattle.httparse.specs.Spans.{span_bytes}
use Rattle.http_wire.specs.declared.fields.Named.{Named}
use Rattle.http_wire.specs.declared.fields.Named.TheVariants.{Absent, Once, Twice}

-- the values are none, that one, or two and more
abbrev pub IsNamed : List ℕ → List (List ℕ) → Named → Type 0
IsNamed buf values Absent = values ≡ []
IsNamed buf values (Once s) = values ≡ span_bytes buf s ∷ []
IsNamed buf values Twice = (v w : List ℕ) × (more : List (List ℕ)) × (values ≡ v ∷ w ∷ more)

-- the first of the values is that one, or there is none
abbrev pub IsFirst : List ℕ → List (List ℕ) → Option Span → Type 0
IsFirst buf values None = values ≡ []
IsFirst buf values (Some s) = (more : List (List ℕ)) × (values ≡ span_bytes buf s ∷ more)

abbrev pub IsOnce : (Span → Type 0) → Named → Type 0
IsOnce P Absent = Unit {0}
IsOnce P (Once s) = P s
IsOnce P Twice = Unit {0}

-- all the values, by what was found so far and the values still to come
abbrev pub IsSoFar : List ℕ → List (List ℕ) → List (List ℕ) → Named → Type 0
IsSoFar buf values rest Absent = values ≡ rest
IsSoFar buf values rest (Once s) = values ≡ span_bytes buf s ∷ rest
IsSoFar buf values rest Twice = ⊥
