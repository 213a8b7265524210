-- A level of an HSS signature: where its LMS signature ends, and what is left for the levels below.
use Rattle.std.proofs.Common.{◌≡◌, ℕ, zero, suc, ◌+◌, ◌-◌, ◌<◌, ◌≤◌, List, length, drop, Some, ap, sym, subst, ◌∙◌, arith}
use Rattle.lms_ots.specs.Words.{part}
use Rattle.lms_ots.specs.Laws.{WordLaws}
use Rattle.lms_tree.specs.declared.types.Level.{Level}
use Rattle.lms_tree.specs.Types.{sig_len, level_at}
use Rattle.lms_tree.specs.Verifies.{LmsVerifies}
use Rattle.hss_keys.specs.Verifies.{VerifiesBelow}

-- the signature of a level has its level's length
pub length_known : WordLaws → (public sig next : List ℕ) (n : ℕ) (level : Level) → level_at public 0 ≡ Some level → n + 56 ≤ length sig → LmsVerifies public (part sig 0 n) next → n ≡ sig_len level
length_known words public sig next n level known room v =
    let same : v.level ≡ level = cc (known, v.known) in
    let len = words.part_len sig 0 n (omega arith) in
    sym len ∙ v.types.whole ∙ ap (λ (l : Level). sig_len l) same

pub record Step (count : ℕ) (public sig msg : List ℕ) (n : ℕ) : Type 0 where
  pub signed : LmsVerifies public (part sig 0 n) (part sig n 56)
  pub below : VerifiesBelow (count - 1) (part sig n 56) (drop (n + 56) sig) msg

pub step_opened : WordLaws → (count : ℕ) (public sig msg : List ℕ) (level : Level) → 0 < count → level_at public 0 ≡ Some level
    → VerifiesBelow count public sig msg → (sig_len level + 56 ≤ length sig) × Step count public sig msg (sig_len level)
step_opened words zero public sig msg level h known v = absurd (omega arith)
step_opened words (suc count) public sig msg level h known v =
    let n : v.0 ≡ sig_len level = length_known words public sig (part sig v.0 56) v.0 level known v.1 v.2 in
    let less : suc count - 1 ≡ count = omega arith in
    let step : Step (suc count) public sig msg v.0 = record { signed = v.2; below = rw less v.3 } in
    (subst (λ (k : ℕ). k + 56 ≤ length sig) n v.1, subst (λ (k : ℕ). Step (suc count) public sig msg k) n step)

pub step_closed : (count : ℕ) (public sig msg : List ℕ) (n : ℕ) → 0 < count → n + 56 ≤ length sig
    → Step count public sig msg n → VerifiesBelow count public sig msg
step_closed zero public sig msg n h room step = absurd (omega arith)
step_closed (suc count) public sig msg n h room step =
    let less : suc count - 1 ≡ count = omega arith in
    (n, room, step.signed, rw less at step.below)

-- a key that verifies names a level
pub level_named : (count : ℕ) (public sig msg : List ℕ) → VerifiesBelow count public sig msg → (level : Level) × (level_at public 0 ≡ Some level)
level_named zero public sig msg v = (v.level, v.known)
level_named (suc count) public sig msg v = (v.2.level, v.2.known)
