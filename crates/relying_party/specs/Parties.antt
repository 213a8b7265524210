-- Services as contracts see them.
use Rattle.std.specs.Prelude.{ℕ, List}

-- a service by its name and its key
pub record ServiceKey : Type 0 where
  pub name : List ℕ
  pub key : List ℕ
