-- Rows that are tried in order.
use Rattle.std.proofs.Common.{◌≡◌, List, [], ◌∷◌, Bool, true, false, ◌||◌, not, Option, None, Some, refl}
use Rattle.std.specs.Option.{option_or}
use Rattle.cbor_core.specs.Rows.{first_row}

-- rows of which none applies
abbrev pub AllFalse : {A : Type 0} → List (Bool × A) → Type 0
AllFalse [] = Unit {0}
AllFalse (row ∷ rows) = (row.0 ≡ false) × AllFalse rows

pub none_fails : {A : Type 0} (rows : List (Bool × A)) → AllFalse rows → first_row rows ≡ None
none_fails [] e = refl
none_fails ((true, a) ∷ rows) e = let bad = e.0 in cc
none_fails ((false, a) ∷ rows) e = none_fails rows e.1

pub all_false : {A : Type 0} (rows : List (Bool × A)) → first_row rows ≡ None → AllFalse rows
all_false [] e = tt
all_false ((true, a) ∷ rows) e = cc
all_false ((false, a) ∷ rows) e = (refl, all_false rows e)

pub not_true : (b : Bool) → b ≡ true → not b ≡ false
not_true true e = refl
not_true false e = cc

pub or_false : (a b : Bool) → a ≡ false → b ≡ false → (a || b) ≡ false
or_false false b e f = f
or_false true b e f = cc

pub both_none : {A : Type 0} (a b : Option A) → a ≡ None → b ≡ None → option_or a b ≡ None
both_none None b e f = f
both_none (Some x) b e f = cc

pub first_none : {A : Type 0} (a b : Option A) → option_or a b ≡ None → a ≡ None
first_none None b e = refl
first_none (Some x) b e = cc

pub second_none : {A : Type 0} (a b : Option A) → option_or a b ≡ None → b ≡ None
second_none None b e = e
second_none (Some x) b e = cc
