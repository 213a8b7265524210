use Rattle.std.specs.Prelude.{◌≡◌, true}
use Rattle.scitt_io.specs.Causes.{raised}
use Rattle.scitt_io.specs.Plan.{is_listed}
use Rattle.scitt_io.specs.declared.plan.Plan.{Plan}

-- the next call is listed as one that fails
abbrev pub FailsNow : Plan → Type 0
FailsNow plan = is_listed plan ≡ true

-- one more call was made, and the list is the same
pub record Advances (old new : Plan) : Type 0 where
  pub made : new.made ≡ raised old.made
  pub fails : new.fails ≡ old.fails
