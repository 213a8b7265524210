-- The facts that a history was handed, as clauses see them.
use Rattle.std.specs.Prelude.{List, [], ◌∷◌, ◌++◌, Option}
use Rattle.std.specs.Option.{option_map}
use Rattle.std.specs.declared.snapshot.Snapshot.{Snapshot}
use Rattle.policy_rules.specs.declared.facts.Facts.{Facts}
use Rattle.policy_eval.specs.declared.entered.Entered.{Entered, Nothing, Then'}

-- the facts, the first ones first
abbrev pub facts_of : Entered → List Facts
facts_of Nothing = []
facts_of (Then' _ before facts) = facts_of before ++ facts.value ∷ []

-- the facts for which there is room
abbrev pub next_of : Option (Snapshot Facts) → Option Facts
next_of next = option_map (λ s. s.value) next
