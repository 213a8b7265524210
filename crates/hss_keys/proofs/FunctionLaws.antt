-- The functions on signatures tell what the relations say.
use Rattle.std.proofs.Common.{◌≡◌, ◌↔◌, ℕ, zero, suc, ◌+◌, ◌*◌, ◌≤◌, Bool, true, false, List, [], ◌∷◌, length, drop, Option, None, Some, refl, sym, ap, ◌∙◌, subst, arith}
use Rattle.std.specs.Prelude.{if◌then◌else◌}
use Rattle.std.proofs.lemmas.Bool.{and_parts, and_from, eqb-true, eq-eqb, ltb-true, lt-ltb, leb-true, le-leb}
use Rattle.std.proofs.lemmas.Slice.Eq.{bytes_eq-Decides}
use Rattle.lms_ots.specs.Words.{u32_at, part}
use Rattle.lms_ots.specs.Laws.{WordLaws}
use Rattle.lms_ots.specs.declared.parameters.OtsType.{OtsType}
use Rattle.lms_ots.specs.declared.parameters.OtsType.TheVariants.{W1, W2, W4, W8}
use Rattle.lms_ots.specs.Parameters.{parameters, type_of_code}
use Rattle.lms_tree.specs.declared.types.Level.{Level}
use Rattle.lms_tree.specs.declared.types.LmsType.{LmsType}
use Rattle.lms_tree.specs.declared.types.LmsType.TheVariants.{H5, H10, H15, H20, H25}
use Rattle.lms_tree.specs.Types.{lms_parameters, lms_type_of_code, sig_len, level_at}
use Rattle.lms_tree.specs.Verifies.{root_of_sig, HasTypes, LmsVerifies}
use Rattle.hss_keys.specs.Levels.{capacity}
use Rattle.hss_keys.specs.Verifies.{VerifiesBelow, IsAbove, IndexBelow}
use Rattle.hss_keys.specs.Functions.{has_types, verifies_at, lms_verifies, len_at, verifies_below, hss_verifies, same_level, is_above, joined_index, index_below, flat_index, names_levels, VerifiesExactly, IndexExactly, NamesExactly}

types_exact : (level : Level) (sig : List ℕ) → (has_types level sig ≡ true) ↔ HasTypes level sig
types_exact level sig = (
  λ e. (let a = and_parts _ _ e in let b = and_parts _ _ a.1 in let c = and_parts _ _ b.1 in
      record { whole = eqb-true _ _ a.0; ots_code = eqb-true _ _ b.0; lms_code = eqb-true _ _ c.0; leaf = ltb-true _ _ c.1 }),
  λ h. and_from _ _ (eq-eqb _ _ h.whole) (and_from _ _ (eq-eqb _ _ h.ots_code) (and_from _ _ (eq-eqb _ _ h.lms_code) (lt-ltb _ _ h.leaf))),
)

lms_by : (public sig msg : List ℕ) (o : Option Level) → level_at public 0 ≡ o → (verifies_at o public sig msg ≡ true) ↔ LmsVerifies public sig msg
lms_by public sig msg None is = (λ e. cc, λ h. let no : None ≡ Some h.level = sym is ∙ h.known in cc)
lms_by public sig msg (Some level) is = (
  λ e. (let a = and_parts _ _ e in let b = and_parts _ _ a.1 in
      record { whole = eqb-true _ _ a.0; level = level; known = is; types = (types_exact level sig).0 b.0; root = (bytes_eq-Decides _ _).0 b.1 }),
  λ h. (let same : h.level ≡ level = (let both : Some h.level ≡ Some level = sym h.known ∙ is in cc) in
      and_from _ _ (eq-eqb _ _ h.whole) (and_from _ _ ((types_exact level sig).1 (subst (λ l. HasTypes l sig) same h.types))
      ((bytes_eq-Decides _ _).1 (subst (λ l. root_of_sig l (part public 8 16) sig msg ≡ part public 24 32) same h.root)))),
)

lms_exact : (public sig msg : List ℕ) → (lms_verifies public sig msg ≡ true) ↔ LmsVerifies public sig msg
unfolding lms_verifies
lms_exact public sig msg = lms_by public sig msg (level_at public 0) refl

-- where a front part verifies, it is as long as the key's types say
front_len : WordLaws → (public sig next : List ℕ) (n : ℕ) → n + 56 ≤ length sig → LmsVerifies public (part sig 0 n) next → len_at (level_at public 0) ≡ n
front_len words public sig next n fits h =
    ap len_at h.known ∙ sym h.types.whole ∙ words.part_len sig 0 n (omega arith)

below_exact : WordLaws → (count : ℕ) (public sig msg : List ℕ) → (verifies_below count public sig msg ≡ true) ↔ VerifiesBelow count public sig msg
unfolding verifies_below
below_exact words zero public sig msg = lms_exact public sig msg
below_exact words (suc count) public sig msg = (
  λ e. (let n = len_at (level_at public 0) in let a = and_parts _ _ e in let b = and_parts _ _ a.1 in
      (n, leb-true _ _ a.0, (lms_exact public (part sig 0 n) (part sig n 56)).0 b.0, (below_exact words count (part sig n 56) (drop (n + 56) sig) msg).0 b.1)),
  λ h. (let n = len_at (level_at public 0) in let same : h.0 ≡ n = sym (front_len words public sig (part sig h.0 56) h.0 h.1 h.2) in
      let all = subst (λ m. (m + 56 ≤ length sig) × LmsVerifies public (part sig 0 m) (part sig m 56) × VerifiesBelow count (part sig m 56) (drop (m + 56) sig) msg) same (h.1, h.2, h.3) in
      and_from _ _ (le-leb _ _ all.0) (and_from _ _ ((lms_exact public (part sig 0 n) (part sig n 56)).1 all.1) ((below_exact words count (part sig n 56) (drop (n + 56) sig) msg).1 all.2))),
)

pub verifies_exactly : WordLaws → VerifiesExactly
unfolding hss_verifies
verifies_exactly words key sig msg = (
  λ e. (let z = and_parts _ _ e in let a = and_parts _ _ z.1 in let b = and_parts _ _ a.1 in let c = and_parts _ _ b.1 in let d = and_parts _ _ c.1 in
      record { whole = eqb-true _ _ z.0; some = leb-true _ _ a.0; most = leb-true _ _ b.0; enough = leb-true _ _ c.0; count = eqb-true _ _ d.0; levels = (below_exact words (u32_at sig 0) (part key 4 56) (drop 4 sig) msg).0 d.1 }),
  λ h. and_from _ _ (eq-eqb _ _ h.whole) (and_from _ _ (le-leb _ _ h.some) (and_from _ _ (le-leb _ _ h.most) (and_from _ _ (le-leb _ _ h.enough) (and_from _ _ (eq-eqb _ _ h.count)
      ((below_exact words (u32_at sig 0) (part key 4 56) (drop 4 sig) msg).1 h.levels))))),
)

-- levels with the same codes are the same
lms_known : (kind : LmsType) → lms_type_of_code (lms_parameters kind).code ≡ Some kind
lms_known H5 = refl
lms_known H10 = refl
lms_known H15 = refl
lms_known H20 = refl
lms_known H25 = refl

ots_known : (kind : OtsType) → type_of_code (parameters kind).code ≡ Some kind
ots_known W1 = refl
ots_known W2 = refl
ots_known W4 = refl
ots_known W8 = refl

same_codes : (a b : Level) → (lms_parameters a.lms).code ≡ (lms_parameters b.lms).code → (parameters a.ots).code ≡ (parameters b.ots).code → a ≡ b
same_codes a b one two =
    let lms : Some a.lms ≡ Some b.lms = sym (lms_known a.lms) ∙ ap lms_type_of_code one ∙ lms_known b.lms in
    let ots : Some a.ots ≡ Some b.ots = sym (ots_known a.ots) ∙ ap type_of_code two ∙ ots_known b.ots in
    let l : a.lms ≡ b.lms = cc in
    let o : a.ots ≡ b.ots = cc in
    ap (λ (x : LmsType). record { lms = x; ots = a.ots }) l ∙ ap (λ (x : OtsType). record { lms = b.lms; ots = x }) o

same_exact : (level : Level) (o : Option Level) → (same_level level o ≡ true) ↔ (o ≡ Some level)
same_exact level None = (λ e. cc, λ e. cc)
same_exact level (Some other) = (
  λ e. (let a = and_parts _ _ e in ap Some (sym (same_codes level other (eqb-true _ _ a.0) (eqb-true _ _ a.1)))),
  λ e. (let same : other ≡ level = cc in and_from _ _ (eq-eqb _ _ (ap (λ (l : Level). (lms_parameters l.lms).code) (sym same))) (eq-eqb _ _ (ap (λ (l : Level). (parameters l.ots).code) (sym same)))),
)

above_exact : (level next : Level) (sig : List ℕ) → (is_above level next sig ≡ true) ↔ IsAbove level next sig
above_exact level next sig = (
  λ e. (let a = and_parts _ _ e in let b = and_parts _ _ a.1 in
      record { room = leb-true _ _ a.0; types = (types_exact level (part sig 0 (sig_len level))).0 b.0; known = (same_exact next (level_at sig (sig_len level))).0 b.1 }),
  λ h. and_from _ _ (le-leb _ _ h.room) (and_from _ _ ((types_exact level (part sig 0 (sig_len level))).1 h.types) ((same_exact next (level_at sig (sig_len level))).1 h.known)),
)

joined_exact : (high index : ℕ) (o : Option ℕ) → joined_index high o ≡ Some index → (low : ℕ) × (o ≡ Some low) × (index ≡ high + low)
joined_exact high index None e = cc
joined_exact high index (Some low) e = (low, refl, let same : high + low ≡ index = cc in sym same)

if_some : {A : Type 0} (b : Bool) (o : Option A) (x : A) → (if b then o else None) ≡ Some x → (b ≡ true) × (o ≡ Some x)
if_some true o x e = (refl, e)
if_some false o x e = cc

if_true : {A : Type 0} (b : Bool) (o other : Option A) → b ≡ true → (if b then o else other) ≡ o
if_true true o other e = refl
if_true false o other e = cc

index_exact : (level : Level) (below : List Level) (sig : List ℕ) (index : ℕ) → (index_below level below sig ≡ Some index) ↔ IndexBelow level below sig index
unfolding index_below
index_exact level [] sig index = (
  λ e. (let a = if_some (has_types level sig) (Some (u32_at sig 0)) index e in ((types_exact level sig).0 a.0, let same : u32_at sig 0 ≡ index = (let o = a.1 in cc) in same)),
  λ h. if_true (has_types level sig) (Some (u32_at sig 0)) None ((types_exact level sig).1 h.0) ∙ ap Some h.1,
)
index_exact level (next ∷ below) sig index = (
  λ e. (let rest = index_below next below (drop (sig_len level + 56) sig) in
      let a = if_some (is_above level next sig) (joined_index (u32_at sig 0 * capacity (next ∷ below)) rest) index e in
      let j = joined_exact (u32_at sig 0 * capacity (next ∷ below)) index rest a.1 in
      (j.0, (above_exact level next sig).0 a.0, (index_exact next below (drop (sig_len level + 56) sig) j.0).0 j.1, j.2)),
  λ h. (let rest = index_below next below (drop (sig_len level + 56) sig) in
      if_true (is_above level next sig) (joined_index (u32_at sig 0 * capacity (next ∷ below)) rest) None ((above_exact level next sig).1 h.1)
      ∙ ap (joined_index (u32_at sig 0 * capacity (next ∷ below))) ((index_exact next below (drop (sig_len level + 56) sig) h.0).1 h.2) ∙ ap Some (sym h.3)),
)

pub index_exactly : IndexExactly
unfolding flat_index
index_exactly [] sig index = (λ e. cc, λ h. absurd h)
index_exactly (level ∷ below) sig index = (
  λ e. (let a = if_some _ (index_below level below (drop 4 sig)) index e in let b = and_parts _ _ a.0 in
      (leb-true _ _ b.0, eqb-true _ _ b.1, (index_exact level below (drop 4 sig) index).0 a.1)),
  λ h. if_true _ (index_below level below (drop 4 sig)) None (and_from _ _ (le-leb _ _ h.0) (eq-eqb _ _ h.1)) ∙ (index_exact level below (drop 4 sig) index).1 h.2,
)

pub names_exactly : NamesExactly
unfolding names_levels
names_exactly [] key = (λ e. cc, λ h. absurd (omega (arith, h.some)))
names_exactly (level ∷ below) key = (
  λ e. (let a = and_parts _ _ e in let b = and_parts _ _ a.1 in
      record { some = omega arith; whole = eqb-true _ _ a.0; count = eqb-true _ _ b.0; top = (same_exact level (level_at key 4)).0 b.1 }),
  λ h. and_from _ _ (eq-eqb _ _ h.whole) (and_from _ _ (eq-eqb _ _ h.count) ((same_exact level (level_at key 4)).1 h.top)),
)
