-- A table of one entry has one member.
use Rattle.std.proofs.Common.{◌≡◌, ◌≢◌, ℕ, List, [], ◌∷◌, length, Option, Some, None, String, string_bytes, refl, ap, sym, ◌∙◌, arith}
use Rattle.std.specs.Prelude.{slice_get}
use Rattle.std.specs.declared.alloc.Global.{Global}
use Rattle.toml.specs.declared.value.Value.{Value}
use Rattle.toml.specs.View.{view, members_view}
use Rattle.toml.proofs.Views.{Entry}
use Rattle.scitt_forms.specs.Conditions.{only_member}

pub none_only : (es : List Entry) → length es ≢ 1 → None ≡ only_member (members_view es)
none_only [] h = refl
none_only (e ∷ []) h = absurd (h refl)
none_only (e ∷ f ∷ es) h = refl

or_else : {A : Type 0} → A → Option A → A
or_else d None = d
or_else d (Some x) = x

entry_is : (e f : Entry) → Some e ≡ Some f → f ≡ e
unfolding or_else
entry_is e f h = sym (ap (or_else e) h)

pub first_only : (es : List Entry) (key : List ℕ) (k : String Global) (v : Value) → length es ≡ 1 → slice_get es 0 ≡ Some (k, v) → key ≡ string_bytes k
    → Some (key, view v) ≡ only_member (members_view es)
first_only [] key k v one first same = absurd (omega (arith, one))
first_only (e ∷ []) key k v one first same =
    ap (λ x. Some (x, view v)) same ∙ ap (λ m. Some (string_bytes m.0, view m.1)) (entry_is e (k, v) first)
first_only (e ∷ f ∷ es) key k v one first same = absurd (omega (arith, one))
