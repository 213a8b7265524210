-- A test or an option that tells what a relation says.
use Rattle.std.proofs.Common.{◌≡◌, ◌↔◌, ℕ, Bool, true, false, IsTrue, Option, Some, None, refl, sym, IfSome}
use Rattle.std.specs.Prelude.{IfNone}

pub agree : {P : Type 0} (r t : Bool) → IsTrue r ↔ P → (t ≡ true) ↔ P → r ≡ t
agree true t a b = sym (b.1 (a.0 (let yes : IsTrue true = cc in yes)))
agree false true a b = let bad = a.1 (b.0 refl) in cc
agree false false a b = refl

pub tells : (o r : Option ℕ) (P : ℕ → Type 0) → ((i : ℕ) → (o ≡ Some i) ↔ P i) → IfSome r P → IfNone r ((i : ℕ) → P i → ⊥) → r ≡ o
tells o (Some i) P law some none = sym ((law i).1 some)
tells None None P law some none = refl
tells (Some j) None P law some none = absurd (none j ((law j).0 refl))
