-- The trees on the way to an index: the first one, and the rest.
use Rattle.std.proofs.Common.{◌≡◌, ℕ, suc, ◌+◌, ◌/◌, ◌%◌, ◌<◌, ◌≤◌, List, [], ◌∷◌, ◌++◌, length, get_or, refl, ap, subst, arith, length-append}
use Rattle.std.specs.List.{between, sum_by}
use Rattle.std.proofs.lemmas.List.{take_all}
use Rattle.std.proofs.lemmas.Slice.{first_rest}
use Rattle.lms_tree.specs.declared.types.Level.{Level}
use Rattle.lms_tree.specs.Types.{height, leaf_count, sig_len}
use Rattle.lms_tree.specs.Trees.{TreeKey}
use Rattle.lms_tree.specs.Laws.{LmsLaws}
use Rattle.hss_keys.specs.declared.branch.Child.{Child}
use Rattle.std.specs.Prelude.{All}
use Rattle.hss_keys.specs.Levels.{CanSign, capacity, below_len}
use Rattle.hss_keys.specs.Signing.{child_key, public_of, sig_of, signed_child, below_sig}
use Rattle.hss_keys.specs.Branches.{IsBranch}
use Rattle.hss_keys.proofs.CapacityLaws.{small_below}

pub child_level : (level : Level) (key : TreeKey) (q : ℕ) → (child_key level key q).level ≡ level
unfolding child_key
child_level level key q = refl

pub child_named : LmsLaws → (level : Level) (key : TreeKey) (q : ℕ) → length (child_key level key q).id ≡ 16
unfolding child_key
child_named lms level key q = lms.child_len key.id key.seed q

pub length-IsBranch : (below : List Level) (key : TreeKey) (index : ℕ) (lower : List Child) → IsBranch key below index lower → length lower ≡ length below
length-IsBranch [] key index lower h = ap length h
length-IsBranch (next ∷ below) key index [] h = absurd h
length-IsBranch (next ∷ below) key index (child ∷ rest) h =
    ap suc (length-IsBranch below (child_key next key (index / capacity (next ∷ below))) (index % capacity (next ∷ below)) rest h.2)

-- the first tree below, and the trees below that one
pub record Opened (key : TreeKey) (below : List Level) (index : ℕ) (lower : List Child) (next : Level) (child : Child) : Type 0 where
  pub tree : child.tree ≡ child_key next key (index / capacity below)
  pub signed : child.signed.items ≡ signed_child next key (index / capacity below)
  pub rest : IsBranch (child_key next key (index / capacity below)) (between 1 (length below) below) (index % capacity below) (between 1 (length lower) lower)

pub branch_opened : (key : TreeKey) (below : List Level) (index : ℕ) (lower : List Child) (next : Level) (child : Child)
    → 0 < length below → IsBranch key below index lower → Opened key below index lower (get_or below 0 next) (get_or lower 0 child)
branch_opened key [] index lower next child some h = absurd (omega arith)
branch_opened key (level ∷ below) index [] next child some h = absurd h
branch_opened key (level ∷ below) index (first ∷ rest) next child some h =
    let levels : between 1 (length (level ∷ below)) (level ∷ below) ≡ below = take_all _ below (omega arith) in
    let children : between 1 (length (first ∷ rest)) (first ∷ rest) ≡ rest = take_all _ rest (omega arith) in
    record { tree = h.0; signed = h.1; rest = rw (levels, children) h.2 }

pub length-signed_child : LmsLaws → (next : Level) (key : TreeKey) (q : ℕ) → length key.id ≡ 16 → q < leaf_count key.level → length (signed_child next key q) ≡ sig_len key.level + 56
length-signed_child lms next key q named below =
    let child = child_key next key q in
    let public = lms.public_len child.level child.id child.seed (child_named lms next key q) in
    let sig = lms.len key.level key.id key.seed q (public_of child) named below in
    omega (arith, length-append (sig_of key q (public_of child)) (public_of child), public, sig)

-- levels below, by their first one
module _ (below : List Level) (d : Level) (some : 0 < length below) where
  pub split : below ≡ get_or below 0 d ∷ between 1 (length below) below
  split = first_rest below d some

  pub small_rest : (level : Level) → sum_by height (level ∷ below) ≤ 30 → sum_by height (get_or below 0 d ∷ between 1 (length below) below) ≤ 30
  small_rest level h = subst (λ (b : List Level). sum_by height b ≤ 30) split (small_below level below h)

  pub index_rest : (index : ℕ) → index < capacity below → index < capacity (get_or below 0 d ∷ between 1 (length below) below)
  index_rest index h = subst (λ (b : List Level). index < capacity b) split h

  pub len_rest : (level : Level) → below_len level below ≡ sig_len level + 56 + below_len (get_or below 0 d) (between 1 (length below) below)
  len_rest level = ap (λ (b : List Level). below_len level b) split

pub each_rest : (below : List Level) → All CanSign below → All CanSign (between 1 (length below) below)
each_rest [] each = λ k e h. absurd (omega arith)
each_rest (level ∷ below) each =
    let whole : between 1 (length (level ∷ below)) (level ∷ below) ≡ below = take_all _ below (omega arith) in
    rw whole (λ k e h. each (suc k) e (omega arith))

-- the signatures from a tree down, by the first one
pub below_sig-nil : (key : TreeKey) (index : ℕ) (msg : List ℕ) → below_sig key [] index msg ≡ sig_of key index msg
unfolding below_sig
below_sig-nil key index msg = refl

pub below_sig-split : (key : TreeKey) (below : List Level) (d : Level) (index : ℕ) (msg : List ℕ) → 0 < length below
    → below_sig key below index msg ≡ signed_child (get_or below 0 d) key (index / capacity below)
    ++ below_sig (child_key (get_or below 0 d) key (index / capacity below)) (between 1 (length below) below) (index % capacity below) msg
unfolding below_sig
below_sig-split key [] d index msg some = absurd (omega arith)
below_sig-split key (next ∷ below) d index msg some =
    let whole : between 1 (length (next ∷ below)) (next ∷ below) ≡ below = take_all _ below (omega arith) in
    rw whole refl
