-- A condition of no depth, and of one more.
use Rattle.std.proofs.Common.{◌≡◌, ℕ, zero, suc, ◌-◌, ◌≢◌, ap, refl, sym, arith, Err}
use Rattle.toml.specs.Data.{Data}
use Rattle.scitt_forms.specs.declared.refusal.Place.{Place}
use Rattle.scitt_forms.specs.declared.refusal.Word.TheVariants.{Condition}
use Rattle.scitt_forms.specs.declared.refusal.Why.TheVariants.{Deep}
use Rattle.scitt_forms.specs.Refusals.{refusal}
use Rattle.scitt_forms.specs.Conditions.{cond_of, cond_said}

pub cond_said-none : (place : Place) (depth : ℕ) (d : Data) → depth ≡ 0 → cond_said place depth d ≡ Err (refusal place Condition Deep)
unfolding cond_said
cond_said-none place zero d is = refl
cond_said-none place (suc depth) d is = absurd (omega arith)

pub cond_said-more : (place : Place) (depth : ℕ) (d : Data) → depth ≢ 0 → cond_said place depth d ≡ cond_of place (cond_said place (depth - 1)) d
unfolding cond_said
cond_said-more place zero d some = absurd (some refl)
cond_said-more place (suc depth) d some = let is : suc depth - 1 ≡ depth = omega arith in ap (λ n. cond_of place (cond_said place n) d) (sym is)
