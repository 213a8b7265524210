-- What an option that was found was found by.
use Rattle.std.proofs.Common.{◌≡◌, Bool, true, false, Option, Some, None, refl}
use Rattle.std.specs.Prelude.{option_and_then, if◌then◌else◌}

pub record Found {A B : Type 0} (o : Option A) (next : A → Option B) (y : B) : Type 0 where
  pub from : A
  pub is : o ≡ Some from
  pub gives : next from ≡ Some y

pub found : {A B : Type 0} (next : A → Option B) (o : Option A) (y : B) → option_and_then next o ≡ Some y → Found o next y
found next None y e = cc
found next (Some x) y e = record { from = x; is = refl; gives = e }

pub record Passed {A : Type 0} (test : Bool) (o : Option A) (y : A) : Type 0 where
  pub passes : test ≡ true
  pub is : o ≡ Some y

pub passed : {A : Type 0} (test : Bool) (o : Option A) (y : A) → (if test then o else None) ≡ Some y → Passed test o y
passed true o y e = record { passes = refl; is = e }
passed false o y e = cc
