-- A clock with no failing calls fails only where no moment is left.
use Rattle.std.proofs.Common.{◌≡◌, ◌⊎◌, ◌↔◌, ℕ, List, [], ◌∷◌, Bool, true, false, IsTrue, IsErr, OnOk, OnErr, Some, None, Result, Ok, Err, refl, ap, ◌∙◌, inl, inr, slice_get}
use Rattle.std.specs.Global.{Vec}
use Rattle.scitt_io.specs.declared.plan.Plan.{Plan}
use Rattle.scitt_io.specs.Plan.{is_listed, after_call, after_refusal}
use Rattle.scitt_io.specs.Memory.{Times}
use Rattle.scitt_io.specs.Moments.{Ticks}

abbrev IsLate : Times → Type 0
IsLate c = (c.plan.fails.items ≡ []) × ((c.plan.faults ≡ 0) ⊎ (c.left ≡ []))

none_listed : (plan : Plan) → plan.fails.items ≡ [] → is_listed plan ≡ false
none_listed plan e = rw e refl

call_fails : (plan : Plan) → (after_call plan).fails ≡ plan.fails
call_fails plan = refl

call_faults : (plan : Plan) → is_listed plan ≡ false → (after_call plan).faults ≡ plan.faults
call_faults plan e = rw e refl

refusal_fails : (plan : Plan) (b : Bool) → is_listed plan ≡ b → (after_refusal plan).fails ≡ plan.fails
refusal_fails plan true e = rw e refl
refusal_fails plan false e = rw e refl

not_true : (b : Bool) → b ≡ false → IsTrue b → ⊥
not_true b e is = cc

ok_is_no_err : (E : Type 0) (m : ℕ) → IsErr {T = ℕ} {E = E} (Ok m) → ⊥
ok_is_no_err E m is = cc

empty : (xs : List ℕ) → slice_get xs 0 ≡ None → xs ≡ []
empty [] e = refl
empty (x ∷ xs) e = cc

late : (E : Type 0) (old new : Times) (m : ℕ) → IsErr {T = ℕ} {E = E} (Ok m) ↔ (IsTrue (is_listed old.plan) ⊎ (old.left ≡ [])) → new.plan.faults ≡ old.plan.faults → (old.plan.faults ≡ 0) ⊎ (old.left ≡ []) → (new.plan.faults ≡ 0) ⊎ (new.left ≡ [])
late E old new m listed same (inl e) = inl (same ∙ e)
late E old new m listed same (inr e) = absurd (ok_is_no_err E m (listed.1 (inr e)))

none_left : (old new : Times) → is_listed old.plan ≡ false → IsTrue (is_listed old.plan) ⊎ (old.left ≡ []) → slice_get new.left 0 ≡ slice_get old.left 0 → new.left ≡ []
none_left old new e (inl is) stays = absurd (not_true (is_listed old.plan) e is)
none_left old new e (inr none) stays = empty new.left (stays ∙ ap (λ xs. slice_get xs 0) none)

pub keeps_late : (E : Type 0) (old new : Times) (result : Result ℕ E) → IsLate old → IsErr result ↔ (IsTrue (is_listed old.plan) ⊎ (old.left ≡ [])) → OnOk result (new.plan ≡ after_call old.plan) → OnErr result (new.plan ≡ after_refusal old.plan) → Ticks (Some (slice_get old.left)) (Some (slice_get new.left)) result → IsLate new
keeps_late E old new (Ok m) is listed counted refused ticks =
    let none = none_listed old.plan is.0 in
    (ap (λ (p : Plan). p.fails.items) counted ∙ is.0, late E old new m listed (ap (λ (p : Plan). p.faults) counted ∙ call_faults old.plan none) is.1)
keeps_late E old new (Err e) is listed counted refused ticks =
    let none = none_listed old.plan is.0 in
    (ap (λ (p : Plan). p.fails.items) refused ∙ ap (λ (f : Vec ℕ). f.items) (refusal_fails old.plan false none) ∙ is.0, inr (none_left old new none (listed.0 refl) (ticks 0)))
