-- One-time keys, signatures and candidate keys (RFC 8554, 4.3 to 4.6). H is SHA-256.
use Rattle.std.specs.Prelude.{ℕ, ◌+◌, ◌*◌, List, [], ◌∷◌, ◌++◌, length, Option, None, nat_lt, if◌then◌else◌}
use Rattle.sha2.specs.Sha256.{sha256}
use Rattle.lms_ots.specs.declared.parameters.OtsType.{OtsType}
use Rattle.lms_ots.specs.declared.chains.OtsAt.{OtsAt}
use Rattle.lms_ots.specs.Words.{u32str, u32_at, part, joined}
use Rattle.lms_ots.specs.Parameters.{parameters, type_of_code}
use Rattle.lms_ots.specs.Chains.{prefix, secret, chain}
use Rattle.lms_ots.specs.Digits.{digit, top}

-- D_PBLC and D_MESG (7.1)
abbrev pub d_pblc : List ℕ
d_pblc = 0x80 ∷ 0x80 ∷ []

abbrev pub d_mesg : List ℕ
d_mesg = 0x81 ∷ 0x81 ∷ []

-- Q, the hash of a message under the randomizer c (4.5)
unfoldable pub message_hash : OtsAt → List ℕ → List ℕ → List ℕ
message_hash place c msg = sha256 (prefix place d_mesg ++ c ++ msg)

-- the hash of the ends of the chains (4.3, step 4)
unfoldable pub key_of_ends : OtsType → OtsAt → (ℕ → List ℕ) → List ℕ
key_of_ends kind place ends = sha256 (prefix place d_pblc ++ joined ends (parameters kind).chains)

-- K, the public key of the seed (4.3, appendix A)
unfoldable pub ots_key : OtsType → OtsAt → List ℕ → List ℕ
ots_key kind place seed = key_of_ends kind place (λ i. chain place i 0 (top kind) (secret place i seed))

-- C, the randomizer of this project's signer: the secret of the chain number fffd
abbrev pub randomizer : OtsAt → List ℕ → List ℕ
randomizer place seed = secret place 0xfffd seed

-- the signature: u32str(type) || C || y[0] || .. || y[p-1] (4.5)
unfoldable pub ots_sig : OtsType → OtsAt → List ℕ → List ℕ → List ℕ
ots_sig kind place seed msg =
    let c = randomizer place seed in
    let q = message_hash place c msg in
    u32str (parameters kind).code ++ c
    ++ joined (λ i. chain place i 0 (digit kind q i) (secret place i seed)) (parameters kind).chains

-- Kc, the candidate key of a signature (4.6, algorithm 4b)
unfoldable pub ots_candidate : OtsType → OtsAt → List ℕ → List ℕ → List ℕ
ots_candidate kind place sig msg =
    let q = message_hash place (part sig 4 32) msg in
    key_of_ends kind place (λ i. chain place i (digit kind q i) (top kind) (part sig (36 + 32 * i) 32))

-- the type whose code stands first in a signature
abbrev pub front_type : List ℕ → Option OtsType
front_type sig = if nat_lt (length sig) 4 then None else type_of_code (u32_at sig 0)
