-- Keys that are derived from names.
use Rattle.std.specs.Prelude.{◌≡◌, ◌≤◌, ℕ, true, ◌++◌, List, [], ◌∷◌, length, take, codes}
use Rattle.std.specs.Str.{is_utf8}
use Rattle.sha2.specs.Sha256.{sha256}
use Rattle.lms_ots.specs.declared.parameters.OtsType.TheVariants.{W4, W8}
use Rattle.lms_tree.specs.declared.types.LmsType.TheVariants.{H5, H10}
use Rattle.lms_tree.specs.declared.types.Level.{Level}
use Rattle.hss_keys.specs.Signing.{hss_public}
use Rattle.hss_keys.specs.Signers.{SignerKey}
use Rattle.policy_rules.specs.declared.documents.Holder.{Holder}

-- the digest of `scitt NAME WHAT`
abbrev pub digest_of : List ℕ → List ℕ → List ℕ
digest_of name what = sha256 (codes "scitt " ++ name ++ what)

abbrev pub seed_of : List ℕ → List ℕ
seed_of name = digest_of name (codes " seed")

abbrev pub id_of : List ℕ → List ℕ
id_of name = take 16 (digest_of name (codes " id"))

-- trees of height 5 with w = 8, and of height 10 with w = 4
abbrev pub small : Level
small = record { lms = H5; ots = W8 }

abbrev pub large : Level
large = record { lms = H10; ots = W4 }

abbrev pub governor_levels : List Level
governor_levels = small ∷ []

abbrev pub issuer_levels : List Level
issuer_levels = large ∷ []

abbrev pub service_levels : List Level
service_levels = small ∷ large ∷ []

-- the public key of a name, and its digest
abbrev pub public_of : List Level → List ℕ → List ℕ
public_of levels name = hss_public levels (id_of name) (seed_of name)

abbrev pub kid_of : List Level → List ℕ → List ℕ
kid_of levels name = sha256 (public_of levels name)

-- who has the key of a name
abbrev pub holder_of : List Level → List ℕ → Holder
holder_of levels name = record { iss = name; kid = kid_of levels name; key = public_of levels name }

-- a signer of the key of a name, whatever index is prepared
pub record IsKeyOf (levels : List Level) (name : List ℕ) (signer : SignerKey) : Type 0 where
  pub levels_are : signer.levels ≡ levels
  pub id : signer.id ≡ id_of name
  pub seed : signer.seed ≡ seed_of name

-- who has a key, by names that aren't empty and aren't long
pub record IsShort (h : Holder) : Type 0 where
  pub utf8 : is_utf8 h.iss ≡ true
  pub some : 1 ≤ length h.iss
  pub iss : length h.iss ≤ 1024
  pub named : 1 ≤ length h.kid
  pub kid : length h.kid ≤ 64
  pub key : length h.key ≤ 60
