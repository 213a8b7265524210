-- The hash chains of a one-time key (RFC 8554, 4.2 to 4.6). H is SHA-256.
use Rattle.std.specs.Prelude.{ℕ, zero, suc, ◌-◌, List, ◌++◌}
use Rattle.sha2.specs.Sha256.{sha256}
use Rattle.lms_ots.specs.declared.chains.OtsAt.{OtsAt}
use Rattle.lms_ots.specs.Words.{u8str, u16str, u32str}

-- I || u32str(q) || tag, which every hashed string begins with
unfoldable pub prefix : OtsAt → List ℕ → List ℕ
prefix place tag = place.id ++ u32str place.q ++ tag

-- step j of chain i (4.3): H(I || u32str(q) || u16str(i) || u8str(j) || x)
unfoldable pub step : OtsAt → ℕ → ℕ → List ℕ → List ℕ
step place i j x = sha256 (prefix place (u16str i) ++ u8str j ++ x)

-- the secret of chain i (appendix A): H(I || u32str(q) || u16str(i) || u8str(0xff) || SEED)
unfoldable pub secret : OtsAt → ℕ → List ℕ → List ℕ
secret place i seed = sha256 (prefix place (u16str i) ++ u8str 0xff ++ seed)

-- n steps of chain i from step j on
unfoldable pub steps : OtsAt → ℕ → ℕ → ℕ → List ℕ → List ℕ
steps place i j zero x = x
steps place i j (suc n) x = steps place i (suc j) n (step place i j x)

-- chain i from step `first` up to, and not with, step `end`
abbrev pub chain : OtsAt → ℕ → ℕ → ℕ → List ℕ → List ℕ
chain place i first end x = steps place i first (end - first) x
