-- The keys and signatures of this project's signer (RFC 8554, 6.1 and 6.2).
use Rattle.std.specs.Prelude.{ℕ, ◌/◌, ◌%◌, List, [], ◌∷◌, ◌++◌, length}
use Rattle.lms_ots.specs.Words.{u32str}
use Rattle.lms_tree.specs.declared.types.Level.{Level}
use Rattle.lms_tree.specs.Nodes.{child_id, child_seed, lms_public, lms_sig}
use Rattle.lms_tree.specs.Trees.{TreeKey}
use Rattle.hss_keys.specs.Levels.{capacity}

-- the tree below leaf q
unfoldable pub child_key : Level → TreeKey → ℕ → TreeKey
child_key level key q = record {
  level = level;
  id = child_id key.id key.seed q;
  seed = child_seed key.id key.seed q;
}

abbrev pub public_of : TreeKey → List ℕ
public_of key = lms_public key.level key.id key.seed

abbrev pub sig_of : TreeKey → ℕ → List ℕ → List ℕ
sig_of key q msg = lms_sig key.level key.id key.seed q msg

-- the signature of leaf q on the key of the tree below it, and that key
abbrev pub signed_child : Level → TreeKey → ℕ → List ℕ
signed_child level key q =
    let child = public_of (child_key level key q) in
    sig_of key q child ++ child

-- the signatures and next keys from a tree down to the message
unfoldable pub below_sig : TreeKey → List Level → ℕ → List ℕ → List ℕ
below_sig key [] index msg = sig_of key index msg
below_sig key (next ∷ below) index msg =
    let q = index / capacity (next ∷ below) in
    signed_child next key q ++ below_sig (child_key next key q) below (index % capacity (next ∷ below)) msg

-- the top tree
abbrev pub top_key : Level → List ℕ → List ℕ → TreeKey
top_key level id seed = record { level = level; id = id; seed = seed }

-- u32str(L) || the top tree's key (6.1)
abbrev pub hss_public : List Level → List ℕ → List ℕ → List ℕ
hss_public [] id seed = []
hss_public (level ∷ below) id seed = u32str (length (level ∷ below)) ++ public_of (top_key level id seed)

-- u32str(L - 1) || the signatures and next keys (6.2)
abbrev pub hss_sig : List Level → List ℕ → List ℕ → ℕ → List ℕ → List ℕ
hss_sig [] id seed index msg = []
hss_sig (level ∷ below) id seed index msg =
    u32str (length below) ++ below_sig (top_key level id seed) below index msg
