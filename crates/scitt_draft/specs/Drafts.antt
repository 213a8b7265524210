-- A statement of given claims on a payload, signed at an index of a key.
use Rattle.std.specs.Prelude.{◌≡◌, ◌≤◌, ◌<◌, ◌+◌, ◌^◌, ℕ, ◌++◌, ◌&&◌, Bool, true, List, [], ◌∷◌, length, Option, Some, None, IfSome, nat_le}
use Rattle.std.specs.Str.{is_utf8}
use Rattle.sha2.specs.Sha256.{sha256}
use Rattle.lms_tree.specs.declared.types.Level.{Level}
use Rattle.hss_keys.specs.Signing.{hss_public, hss_sig}
use Rattle.cbor_core.specs.declared.tree.Item.{Item}
use Rattle.cbor_core.specs.Items.{uint_item, nint_item, bytes_item, text_item, map_item}
use Rattle.cbor_core.specs.Exact.{strict_text}
use Rattle.cose_sign1.specs.OneTbs.{tbs_of}
use Rattle.cose_sign1.specs.Message.{bare_text}
use Rattle.scitt_draft.specs.declared.claims.Claims.{Claims as Given}

-- the issuer, the subject, the type of the content, and the moments from which and up to which it is meant, if any
pub record Claims : Type 0 where
  pub issuer : List ℕ
  pub subject : List ℕ
  pub content_type : List ℕ
  pub not_before : Option ℕ
  pub expires : Option ℕ

abbrev pub claims_from : List ℕ → List ℕ → List ℕ → Option ℕ → Option ℕ → Claims
claims_from iss sub type nbf exp = record { issuer = iss; subject = sub; content_type = type; not_before = nbf; expires = exp }

-- what the code's claims mean
abbrev pub claimed : Given → Claims
claimed c = claims_from c.issuer.now c.subject.now c.content_type.now c.not_before c.expires

-- the issuer and the subject have 1 to 1,024 bytes, and the type at most 1,024
abbrev pub is_name : List ℕ → Bool
is_name text = nat_le 1 (length text) && nat_le (length text) 1024

abbrev pub names_fit : Claims → Bool
names_fit claims = is_name claims.issuer && (is_name claims.subject && nat_le (length claims.content_type) 1024)

-- a moment beside its label, where it is given
abbrev pub moment_entry : ℕ → Option ℕ → List (Item × Item)
moment_entry label None = []
moment_entry label (Some moment) = (uint_item label, uint_item moment) ∷ []

-- the claims: {1: issuer, 2: subject, 4: expires, 5: not before} (RFC 8392, 4)
abbrev pub claim_entries : Claims → List (Item × Item)
claim_entries claims =
    (uint_item 1, text_item claims.issuer) ∷ (uint_item 2, text_item claims.subject) ∷ (moment_entry 4 claims.expires ++ moment_entry 5 claims.not_before)

-- the protected map: {1: -46, 3: type, 4: kid, 15: claims} (RFC 9052, 3.1; RFC 9597, 2)
abbrev pub protected_entries : Claims → List ℕ → List (Item × Item)
protected_entries claims kid =
    (uint_item 1, nint_item 45) ∷ (uint_item 3, text_item claims.content_type) ∷ (uint_item 4, bytes_item kid) ∷ (uint_item 15, map_item (claim_entries claims)) ∷ []

abbrev pub protected_item : Claims → List ℕ → Item
protected_item claims kid = map_item (protected_entries claims kid)

-- the protected string of claims under a key of this name: its strict bytes
abbrev pub protected_by : Claims → List ℕ → List ℕ
protected_by claims kid = strict_text (protected_item claims kid)

-- the bytes of the statement on a protected string, with the signature of a key at an index on the Sig_structure (RFC 9052, 4.4): tag 18 on
-- the string, an empty map, the payload and the signature, in strict
abbrev pub signed_at : List Level → List ℕ → List ℕ → ℕ → List ℕ → List ℕ → List ℕ
signed_at levels id seed index protected payload = bare_text protected payload (hss_sig levels id seed index (tbs_of protected payload))

-- the same of claims; the kid is the digest of the key
abbrev pub statement_by : List Level → List ℕ → List ℕ → ℕ → Claims → List ℕ → List ℕ
statement_by levels id seed index claims payload = signed_at levels id seed index (protected_by claims (sha256 (hss_public levels id seed))) payload

-- claims whose names are within their limits, which are texts and moments of 64 bits
pub record ClaimsWithin (claims : Claims) : Type 0 where
  pub names : names_fit claims ≡ true
  pub issuer : is_utf8 claims.issuer ≡ true
  pub subject : is_utf8 claims.subject ≡ true
  pub content_type : is_utf8 claims.content_type ≡ true
  pub from : IfSome claims.not_before (λ m. m < 2 ^ 64)
  pub until : IfSome claims.expires (λ m. m < 2 ^ 64)
