-- What is kept of each entry, as contracts see it.
use Rattle.std.specs.Prelude.{ℕ, List, Option}
use Rattle.policy_rules.specs.declared.facts.Facts.{Facts}

-- the entries' ids and the numbers of their records, and for how many more there is room
pub record Numbers : Type 0 where
  pub ids : List (List ℕ)
  pub homes : List ℕ
  pub spare : ℕ

-- the entries' ids, the numbers of their records, their facts and their leaf hashes, and the facts for which there is room
pub record Lists : Type 0 where
  pub ids : List (List ℕ)
  pub homes : List ℕ
  pub facts : List Facts
  pub leaves : List (List ℕ)
  pub room : Option Facts
