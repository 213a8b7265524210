-- Trees of one-time keys, their public keys and signatures (RFC 8554, 5.3 and 5.4). H is SHA-256.
use Rattle.std.specs.Prelude.{ℕ, zero, suc, ◌+◌, ◌-◌, ◌*◌, ◌/◌, ◌%◌, ◌^◌, List, [], ◌∷◌, ◌++◌}
use Rattle.sha2.specs.Sha256.{sha256}
use Rattle.lms_ots.specs.declared.chains.OtsAt.{OtsAt}
use Rattle.lms_ots.specs.Words.{u32str, part, joined}
use Rattle.lms_ots.specs.Parameters.{parameters}
use Rattle.lms_ots.specs.Chains.{prefix, secret}
use Rattle.lms_ots.specs.OneTime.{ots_key, ots_sig}
use Rattle.lms_tree.specs.declared.types.Level.{Level}
use Rattle.lms_tree.specs.Types.{lms_parameters, height, leaf_count}

-- D_LEAF and D_INTR (7.1)
abbrev pub d_leaf : List ℕ
d_leaf = 0x82 ∷ 0x82 ∷ []

abbrev pub d_intr : List ℕ
d_intr = 0x83 ∷ 0x83 ∷ []

-- the one-time key number q of the tree id
abbrev pub key_name : List ℕ → ℕ → OtsAt
key_name id q = record { id = id; q = q }

-- the identifier of the tree below leaf q of this project's signer: the first 16 bytes of the secret
-- ffff of that leaf (secrets, appendix A)
unfoldable pub child_id : List ℕ → List ℕ → ℕ → List ℕ
child_id id seed q = part (secret (key_name id q) 0xffff seed) 0 16

-- the seed of that tree: the secret fffe of the leaf
unfoldable pub child_seed : List ℕ → List ℕ → ℕ → List ℕ
child_seed id seed q = secret (key_name id q) 0xfffe seed

-- T[r] at a leaf, from its one-time key (5.3): H(I || u32str(r) || D_LEAF || K)
unfoldable pub leaf : List ℕ → ℕ → List ℕ → List ℕ
leaf id r key = sha256 (prefix (key_name id r) d_leaf ++ key)

-- T[r] above the leaves, from its children (5.3): H(I || u32str(r) || D_INTR || T[2r] || T[2r+1])
unfoldable pub parent : List ℕ → ℕ → List ℕ → List ℕ → List ℕ
parent id r left right = sha256 (prefix (key_name id r) d_intr ++ left ++ right)

-- T[r], at `up` levels above the leaves, which are the nodes from 2^h on (5.3)
unfoldable pub node : Level → List ℕ → List ℕ → ℕ → ℕ → List ℕ
node level id seed zero r = leaf id r (ots_key level.ots (key_name id (r - leaf_count level)) seed)
node level id seed (suc up) r = parent id r (node level id seed up (2 * r)) (node level id seed up (2 * r + 1))

-- T[1]
abbrev pub root : Level → List ℕ → List ℕ → List ℕ
root level id seed = node level id seed (height level) 1

-- the node beside r: r xor 1
abbrev pub sibling : ℕ → ℕ
sibling r = r + 1 - 2 * (r % 2)

-- path[i] of leaf q: the node beside that on the way from the leaf to the root, i levels up (5.4.1)
abbrev pub path_node : Level → List ℕ → List ℕ → ℕ → ℕ → List ℕ
path_node level id seed q i = node level id seed i (sibling ((leaf_count level + q) / 2 ^ i))

-- u32str(type) || u32str(otstype) || I || T[1] (5.3)
unfoldable pub lms_public : Level → List ℕ → List ℕ → List ℕ
lms_public level id seed =
    u32str (lms_parameters level.lms).code ++ u32str (parameters level.ots).code ++ id ++ root level id seed

-- u32str(q) || lmots_signature || u32str(type) || path[0] || .. || path[h-1] (5.4)
unfoldable pub lms_sig : Level → List ℕ → List ℕ → ℕ → List ℕ → List ℕ
lms_sig level id seed q msg =
    u32str q ++ ots_sig level.ots (key_name id q) seed msg ++ u32str (lms_parameters level.lms).code
    ++ joined (path_node level id seed q) (height level)
