-- `keygen`: an issuer's key, made from random bytes.
use Rattle.std.specs.Prelude.{◌≡◌, ◌⊎◌, ◌<◌, ◌≤◌, ℕ, ◌++◌, List, length, take, drop, slice_index, codes, Result, Ok, Err}
use Rattle.hex.specs.Hex.{encode_lower}
use Rattle.sha2.specs.Sha256.{sha256}
use Rattle.lms_tree.specs.declared.types.Level.{Level}
use Rattle.hss_keys.specs.Signing.{hss_public}
use Rattle.key_store.specs.declared.records.KeyHead.{KeyHead}
use Rattle.scitt_journal.specs.Layout.{NoLog}
use Rattle.scitt_tool.specs.Answer.{Answer, line, done, refused}
use Rattle.key_store.specs.declared.stops.KeyStop.{KeyStop}
use Rattle.key_store.specs.declared.stops.KeyStop.TheVariants.{KeyExists as Exists, DiskFault}
use Rattle.scitt_tool.specs.declared.stops.ToolStop.{ToolStop}
use Rattle.scitt_tool.specs.declared.stops.ToolStop.TheVariants.{DiskFault as ToolDiskFault, OutOfMemory as ToolOutOfMemory}
use Rattle.scitt_tool.specs.Outcome.{Outcome, Keyed, plain}

-- the key of a file, and the digest that names it
abbrev pub public_of : KeyHead → List ℕ
public_of head = hss_public head.levels head.id head.seed

abbrev pub kid_of : KeyHead → List ℕ
kid_of head = sha256 (public_of head)

-- the lines for a key
abbrev pub key_lines : List ℕ → List ℕ
key_lines public = line (codes "public " ++ encode_lower public) ++ line (codes "kid " ++ encode_lower (sha256 public))

-- the random bytes of a seed and an identifier
abbrev pub key_bytes : ℕ
key_bytes = 48

-- the first 32 random bytes are the seed, and the next 16 the identifier; one index is reserved at a time
abbrev pub head_from : List Level → List ℕ → KeyHead
head_from levels random = record { seed = take 32 random; id = take 16 (drop 32 random); levels = levels; block = 1 }

-- the random bytes ended before
pub record RandomEnded (random : List ℕ) (outcome : Outcome) : Type 0 where
  pub few : length random < key_bytes
  pub is : outcome ≡ plain (refused (codes "refused random ended"))

-- there is a key file already
pub record KeyExists (Tells : Type 0) (key random : List ℕ) (outcome : Outcome) : Type 0 where
  pub enough : key_bytes ≤ length random
  pub six : Tells → 6 ≤ length key
  pub open_gate : Tells → slice_index key 0 ≡ 1
  pub is : outcome ≡ plain (refused (codes "refused key exists"))

-- there is none, and it is made
pub record MakesKey (Tells : Type 0) (levels : List Level) (key random : List ℕ) (outcome : Outcome) : Type 0 where
  pub enough : key_bytes ≤ length random
  pub none : Tells → NoLog key
  pub is : outcome ≡ record { answer = done (key_lines (public_of (head_from levels random))); key = Keyed (head_from levels random) 0 }

-- what the bytes of the key file call for, once there are enough random bytes
abbrev pub MakesOrExists : Type 0 → List Level → List ℕ → List ℕ → Outcome → Type 0
MakesOrExists Tells levels key random outcome = KeyExists Tells key random outcome ⊎ MakesKey Tells levels key random outcome

-- the outcome by the bytes of the key file, where its disk tells them, and by the random bytes
abbrev pub KeygenOf : Type 0 → List Level → List ℕ → List ℕ → Outcome → Type 0
KeygenOf Tells levels key random outcome = RandomEnded random outcome ⊎ MakesOrExists Tells levels key random outcome

-- what a refusal to make a key file comes to
abbrev pub NotMade : KeyStop → Result Answer ToolStop → Type 0
NotMade Exists result = result ≡ Ok (refused (codes "refused key exists"))
NotMade DiskFault result = result ≡ Err ToolDiskFault
NotMade _ result = result ≡ Err ToolOutOfMemory
