-- A history, as contracts see it.
use Rattle.std.specs.Prelude.{List, Option}
use Rattle.policy_rules.specs.declared.facts.Facts.{Facts}

-- the facts of all entries, and those for which there is room
pub record Entries : Type 0 where
  pub entries : List Facts
  pub room : Option Facts
