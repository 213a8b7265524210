-- A statement before it is signed, and what its signing comes to.
use Rattle.std.specs.Prelude.{◌≡◌, ◌≤◌, ◌<◌, ◌⊎◌, ◌+◌, ℕ, min, List, length, true, false, Option, Some, None}
use Rattle.scitt_disk.specs.Images.{Held}
use Rattle.lms_tree.specs.declared.types.Level.{Level}
use Rattle.hss_keys.specs.Levels.{capacity}
use Rattle.hss_keys.specs.Signers.{SignerKey, hss_sig_len}
use Rattle.cbor_core.specs.Limits.{longest_string}
use Rattle.cose_sign1.specs.OneTbs.{tbs_of}
use Rattle.key_store.specs.declared.records.KeyHead.{KeyHead}
use Rattle.statement.specs.Statements.{most_logged, Logged}
use Rattle.scitt_tool.specs.declared.draft.Draft.{Draft}
use Rattle.scitt_tool.specs.declared.sign.Ready.{Ready}
use Rattle.scitt_tool.specs.Answer.{Answer, done, exhausted}
use Rattle.scitt_tool.specs.Outcome.{LeavesRecords}
use Rattle.scitt_draft.specs.Drafts.{Claims, protected_by}
use Rattle.scitt_tool.specs.Keygen.{kid_of}
use Rattle.scitt_tool.specs.Sign.{logged_len, is_fit, fits, signature_at}

-- the signer of a key, with its first index prepared
abbrev pub signer_of : KeyHead → SignerKey
signer_of head = record { levels = head.levels; id = head.id; seed = head.seed; prepared = 0 }

-- the Sig_structure of a draft's protected string and the payload, and room for a signature of so many bytes and for the statement
pub record IsDraft (payload : List ℕ) (room : ℕ) (draft : Draft) : Type 0 where
  pub text : draft.text.items ≡ tbs_of draft.protected payload
  pub signature : length draft.signature.items ≡ room
  pub statement : length draft.statement.items ≡ logged_len draft.protected payload room
  pub short : length draft.protected ≤ longest_string
  pub small : length payload ≤ longest_string

-- there is a draft exactly where the logged form isn't too long
abbrev pub DraftOf : List ℕ → List ℕ → ℕ → Option Draft → Type 0
DraftOf protected payload signature None = most_logged < logged_len protected payload signature
DraftOf protected payload signature (Some draft) =
    IsDraft payload signature draft × (draft.protected ≡ protected) × (logged_len protected payload signature ≤ most_logged)

-- the same of claims whose names fit
abbrev pub Drafts : Claims → List ℕ → List Level → List ℕ → Option Draft → Type 0
Drafts claims kid levels payload None = is_fit claims kid levels payload ≡ false
Drafts claims kid levels payload (Some draft) =
    IsDraft payload (hss_sig_len levels) draft × (draft.protected ≡ protected_by claims kid) × (is_fit claims kid levels payload ≡ true)

-- the signer of the key and a draft under it, exactly where the claims and the logged form are within their limits
abbrev pub IsReady : Claims → KeyHead → List ℕ → Option Ready → Type 0
IsReady claims head payload None = fits claims head payload ≡ false
IsReady claims head payload (Some ready) =
    (ready.signer ≡ signer_of head)
    × IsDraft payload (hss_sig_len head.levels) ready.draft
    × (ready.draft.protected ≡ protected_by claims (kid_of head))
    × (fits claims head payload ≡ true)

-- the next index was taken, and it is reserved with those of its block, whenever a crash comes; or none is left
abbrev pub TakesNext : Type 0 → KeyHead → ℕ → Held → Option ℕ → Type 0
TakesNext Tells head next held (Some index) =
    (index ≡ next) × (next < capacity head.levels) × (Tells → LeavesRecords held head (min (next + head.block) (capacity head.levels)))
TakesNext Tells head next held None = (next ≡ capacity head.levels) × (Tells → LeavesRecords held head next)

-- the answer is the statement of these strings and this signature
pub record SaysStatement (protected payload signature : List ℕ) (answer : Answer) : Type 0 where
  pub statement : List ℕ
  pub spelled : Logged protected payload signature statement
  pub is : answer ≡ done statement

-- no index is left, and the answer says so
pub record TakesNone (Tells : Type 0) (head : KeyHead) (next : ℕ) (held : Held) (answer : Answer) : Type 0 where
  pub none : next ≡ capacity head.levels
  pub is : answer ≡ exhausted next next
  pub kept : Tells → LeavesRecords held head next

-- the next index was taken, and the answer is the statement that it signed
pub record TakesOne (Tells : Type 0) (protected : List ℕ) (head : KeyHead) (next : ℕ) (payload : List ℕ) (held : Held) (answer : Answer) : Type 0 where
  pub left : next < capacity head.levels
  pub says : SaysStatement protected payload (signature_at head next protected payload) answer
  pub reserves : Tells → LeavesRecords held head (min (next + head.block) (capacity head.levels))

abbrev pub SignsNext : Type 0 → List ℕ → KeyHead → ℕ → List ℕ → Held → Answer → Type 0
SignsNext Tells protected head next payload held answer = TakesNone Tells head next held answer ⊎ TakesOne Tells protected head next payload held answer
