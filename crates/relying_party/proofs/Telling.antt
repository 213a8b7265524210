-- A test that tells what a relation says.
use Rattle.std.proofs.Common.{◌≡◌, ◌↔◌, Bool, true, false, IsTrue, refl, sym}

pub agree : {P : Type 0} (r t : Bool) → IsTrue r ↔ P → (t ≡ true) ↔ P → r ≡ t
agree true t a b = sym (b.1 (a.0 (let yes : IsTrue true = cc in yes)))
agree false true a b = let bad = a.1 (b.0 refl) in cc
agree false false a b = refl
