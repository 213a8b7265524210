-- The leaf numbers of a signature spell one index at most.
use Rattle.std.proofs.Common.{◌≡◌, ℕ, ◌+◌, ◌*◌, List, [], ◌∷◌, drop, ap, sym, ◌∙◌, Option, None, Some}
use Rattle.std.specs.Prelude.{IfSome}
use Rattle.lms_ots.specs.Words.{u32_at}
use Rattle.lms_tree.specs.declared.types.Level.{Level}
use Rattle.lms_tree.specs.Types.{sig_len}
use Rattle.hss_keys.specs.Levels.{capacity}
use Rattle.hss_keys.specs.Verifies.{IndexBelow, FlatIndex}

index_below-one : (below : List Level) (level : Level) (sig : List ℕ) (first second : ℕ) → IndexBelow level below sig first → IndexBelow level below sig second → first ≡ second
index_below-one [] level sig first second h k = sym h.1 ∙ k.1
index_below-one (next ∷ below) level sig first second h k =
    let low = index_below-one below next (drop (sig_len level + 56) sig) h.0 k.0 h.2 k.2 in
    h.3 ∙ ap (λ n. u32_at sig 0 * capacity (next ∷ below) + n) low ∙ sym k.3

pub flat_index-one : (levels : List Level) (sig : List ℕ) (first second : ℕ) → FlatIndex levels sig first → FlatIndex levels sig second → first ≡ second
flat_index-one [] sig first second h k = absurd h
flat_index-one (level ∷ below) sig first second h k =
    index_below-one below level (drop 4 sig) first second h.2 k.2

pub only_index : (levels : List Level) (sig : List ℕ) (found : Option ℕ) → IfSome found (λ index. FlatIndex levels sig index) → IfSome found (λ index. (other : ℕ) → FlatIndex levels sig other → other ≡ index)
only_index levels sig None h = tt
only_index levels sig (Some index) h = λ other k. flat_index-one levels sig other index k h
