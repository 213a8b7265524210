-- The text that a service signs over a root (RFC 9052, 4.4), and its protected string byte by byte.
use Rattle.std.specs.Prelude.{ℕ, ◌+◌, List, [], ◌∷◌, ◌++◌, length}
use Rattle.cbor_core.specs.Head.{head}
use Rattle.cbor_core.specs.Encoding.{size_of, head_size}
use Rattle.cbor_core.specs.Exact.{strict_text}
use Rattle.cose_sign1.specs.OneTbs.{tbs_of}
use Rattle.receipts.specs.Written.{protected_item}

-- the Sig_structure of the protected string and the root
abbrev pub signed_text : List ℕ → List ℕ → ℕ → List ℕ → List ℕ
signed_text name kid size root = tbs_of (strict_text (protected_item name kid size)) root

-- how many bytes it has, for a name of so many bytes
abbrev pub signed_len : ℕ → ℕ → ℕ
signed_len n size = 100 + head_size (size_of n) + n + head_size (size_of size)

-- {1: -46, 4: kid, 15: {1: name}, 395: 1, -70001: size}, of which only the name and the size vary in length
abbrev pub protected_text : List ℕ → List ℕ → ℕ → List ℕ
protected_text name kid size =
    (165 ∷ 1 ∷ 56 ∷ 45 ∷ 4 ∷ 88 ∷ 32 ∷ []) ++ (kid ++ ((15 ∷ 161 ∷ 1 ∷ []) ++ (head 3 (size_of (length name)) (length name) ++ (name
    ++ ((25 ∷ 1 ∷ 139 ∷ 1 ∷ 58 ∷ 0 ∷ 1 ∷ 17 ∷ 112 ∷ []) ++ head 0 (size_of size) size)))))

-- how many bytes that are
abbrev pub protected_len : ℕ → ℕ → ℕ
protected_len n size = 51 + head_size (size_of n) + n + head_size (size_of size)
