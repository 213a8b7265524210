-- `sign`: a statement of these claims on a payload, signed at the key's next index.
use Rattle.std.specs.Prelude.{◌≡◌, ◌⊎◌, ◌<◌, ◌+◌, ℕ, min, ◌++◌, ◌&&◌, Bool, true, false, List, length, Result, Ok, Err, nat_le, codes}
use Rattle.std.specs.Fmt.{decimal}
use Rattle.cose_sign1.specs.Strings.{string_len}
use Rattle.cose_sign1.specs.OneTbs.{tbs_of}
use Rattle.lms_tree.specs.declared.types.Level.{Level}
use Rattle.hss_keys.specs.Levels.{capacity}
use Rattle.hss_keys.specs.Signing.{hss_sig}
use Rattle.hss_keys.specs.Signers.{hss_sig_len}
use Rattle.key_store.specs.declared.records.KeyHead.{KeyHead}
use Rattle.key_store.specs.Records.{IsHead}
use Rattle.key_store.specs.declared.stops.KeyStop.{KeyStop}
use Rattle.key_store.specs.declared.stops.KeyStop.TheVariants.{NoKey, Short as ShortKey, BadKeyFile, DiskFault}
use Rattle.scitt_tool.specs.declared.stops.ToolStop.{ToolStop}
use Rattle.scitt_tool.specs.declared.stops.ToolStop.TheVariants.{DiskFault as ToolDiskFault, OutOfMemory as ToolOutOfMemory}
use Rattle.key_store.specs.Stops.{HasBad}
use Rattle.scitt_journal.specs.Layout.{NoLog, Short}
use Rattle.statement.specs.Statements.{most_logged, Logged}
use Rattle.scitt_tool.specs.Answer.{Answer, done, refused, exhausted}
use Rattle.scitt_draft.specs.Drafts.{Claims, names_fit, protected_by}
use Rattle.scitt_tool.specs.Keygen.{kid_of}
use Rattle.scitt_tool.specs.Outcome.{Outcome, Keyed, plain, IsKey}

-- how many bytes the logged form has, with a signature of so many
abbrev pub logged_len : List ℕ → List ℕ → ℕ → ℕ
logged_len protected payload signature = 3 + string_len (length protected) + string_len (length payload) + string_len signature

-- the names and the logged form are within their limits
abbrev pub is_fit : Claims → List ℕ → List Level → List ℕ → Bool
is_fit claims kid levels payload =
    names_fit claims && nat_le (logged_len (protected_by claims kid) payload (hss_sig_len levels)) most_logged

abbrev pub fits : Claims → KeyHead → List ℕ → Bool
fits claims head payload = is_fit claims (kid_of head) head.levels payload

-- the signature of a key at an index, on the Sig_structure (RFC 9052, 4.4)
abbrev pub signature_at : KeyHead → ℕ → List ℕ → List ℕ → List ℕ
signature_at head index protected payload = hss_sig head.levels head.id head.seed index (tbs_of protected payload)

abbrev pub refused_claim : Answer
refused_claim = refused (codes "refused claim")

-- a limit is broken
pub record RefusesClaim (claims : Claims) (head : KeyHead) (payload : List ℕ) (outcome : Outcome) : Type 0 where
  pub unfit : fits claims head payload ≡ false
  pub is : outcome ≡ plain refused_claim

-- no index is left
pub record Exhausts (claims : Claims) (head : KeyHead) (next : ℕ) (payload : List ℕ) (outcome : Outcome) : Type 0 where
  pub fit : fits claims head payload ≡ true
  pub none : next ≡ capacity head.levels
  pub is : outcome ≡ record { answer = exhausted next next; key = Keyed head next }

-- the index is reserved, with those of its block, and the statement with its signature is printed: tag 18 on the protected string, an
-- empty map, the payload and the signature, in strict
pub record Signs (claims : Claims) (head : KeyHead) (next : ℕ) (payload : List ℕ) (outcome : Outcome) : Type 0 where
  pub fit : fits claims head payload ≡ true
  pub left : next < capacity head.levels
  pub statement : List ℕ
  pub spelled : Logged (protected_by claims (kid_of head)) payload (signature_at head next (protected_by claims (kid_of head)) payload) statement
  pub is : outcome ≡ record { answer = done statement; key = Keyed head (min (next + head.block) (capacity head.levels)) }

-- the outcome by a key and its next index
abbrev pub SignedBy : Claims → KeyHead → ℕ → List ℕ → Outcome → Type 0
SignedBy claims head next payload outcome =
    RefusesClaim claims head payload outcome ⊎ (Exhausts claims head next payload outcome ⊎ Signs claims head next payload outcome)

-- there is no key file
pub record HasNoKey (Tells : Type 0) (key : List ℕ) (outcome : Outcome) : Type 0 where
  pub none : Tells → NoLog key
  pub is : outcome ≡ plain (refused (codes "refused key none"))

-- its first open gate with a record that passes the end stands at this offset
pub record HasShortKey (Tells : Type 0) (key : List ℕ) (outcome : Outcome) : Type 0 where
  pub at : ℕ
  pub cut : Tells → Short key at
  pub is : outcome ≡ plain (refused (codes "refused key short " ++ decimal at))

-- this record is the first that doesn't fit
pub record HasBadKey (Tells : Type 0) (key : List ℕ) (outcome : Outcome) : Type 0 where
  pub number : ℕ
  pub bad : Tells → HasBad key number
  pub is : outcome ≡ plain (refused (codes "refused key bad " ++ decimal number))

-- the file is that of this key, and so many indices are reserved: the next one is the first that isn't
pub record HasKey (Tells : Type 0) (claims : Claims) (key payload : List ℕ) (outcome : Outcome) : Type 0 where
  pub head : KeyHead
  pub next : ℕ
  pub limits : IsHead head
  pub file : Tells → IsKey key head next
  pub signed : SignedBy claims head next payload outcome

-- the outcome by the bytes of the key file, where its disk tells them, and of the payload
abbrev pub SignOf : Type 0 → Claims → List ℕ → List ℕ → Outcome → Type 0
SignOf Tells claims key payload outcome =
    HasNoKey Tells key outcome ⊎ (HasShortKey Tells key outcome ⊎ (HasBadKey Tells key outcome ⊎ HasKey Tells claims key payload outcome))

-- what a refusal to load a key file comes to
abbrev pub NotLoaded : KeyStop → Result Answer ToolStop → Type 0
NotLoaded NoKey (Ok answer) = answer ≡ refused (codes "refused key none")
NotLoaded (ShortKey at) (Ok answer) = answer ≡ refused (codes "refused key short " ++ decimal at)
NotLoaded (BadKeyFile number) (Ok answer) = answer ≡ refused (codes "refused key bad " ++ decimal number)
NotLoaded _ (Ok answer) = ⊥
NotLoaded DiskFault (Err stop) = stop ≡ ToolDiskFault
NotLoaded _ (Err stop) = stop ≡ ToolOutOfMemory
