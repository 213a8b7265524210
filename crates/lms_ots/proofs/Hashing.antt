-- A hasher that takes in one string after another.
use Rattle.std.proofs.Common.{◌≡◌, ℕ, ◌+◌, List, ◌++◌, sym, ap, ◌∙◌, subst}
use Rattle.std.proofs.lemmas.List.{append-nil}
use Rattle.sha2.specs.Hashers.{Holds256}
use Rattle.sha2.specs.declared.Sha256.{Sha256}
use Rattle.lms_ots.specs.Words.{joined}
use Rattle.lms_ots.proofs.JoinedLaws.{joined_none, joined_after}

pub absorbed_first : (h : Sha256) (before : List ℕ) (f : ℕ → List ℕ) (x : List ℕ) → x ≡ before → Holds256 h x → Holds256 h (before ++ joined f 0)
absorbed_first h before f x e held =
    subst (λ (m : List ℕ). Holds256 h m) (e ∙ sym (append-nil before) ∙ ap (λ y. before ++ y) (sym (joined_none f))) held

pub absorbed_more : (h : Sha256) (before : List ℕ) (f : ℕ → List ℕ) (n : ℕ) (x : List ℕ) → x ≡ f n → Holds256 h ((before ++ joined f n) ++ x) → Holds256 h (before ++ joined f (n + 1))
absorbed_more h before f n x e held = subst (λ (m : List ℕ). Holds256 h m) (joined_after before f n x e) held
