-- The fold of the judgement over the stated statements.
use Rattle.std.specs.Prelude.{◌≡◌, ◌≤◌, ℕ, zero, suc, ◌+◌, ◌*◌, List, [], ◌∷◌, ◌++◌, Bool, true, false, Option, Some, None, length, codes}
use Rattle.merkle_tree.specs.Mth.{mth}
use Rattle.scitt_disk.specs.declared.memory.MemDisk.{MemDisk}
use Rattle.scitt_disk.specs.Images.{ImageNow}
use Rattle.scitt_disk.specs.Memory.{held_of}
use Rattle.statement.specs.Said.{Said, logged_statement}
use Rattle.log_replay.specs.declared.parts.Header.{Header}
use Rattle.log_replay.specs.declared.words.Judgement.{Judgement}
use Rattle.log_replay.specs.declared.words.Judgement.TheVariants.{Known, Admit, Deny}
use Rattle.log_replay.specs.Records.{Entry, header_of, entries_of, leaves_of, logged_bytes}
use Rattle.log_replay.specs.Judging.{judge, moment_after}
use Rattle.log_replay.specs.Spelling.{entry_bytes}
use Rattle.registrar.specs.declared.words.Params.{Params}
use Rattle.registrar.specs.Opening.{header_with}
use Rattle.registrar.specs.Turns.{Standing, IsSound}
use Rattle.registrar.specs.Fits.{Between}
use Rattle.scitt_draft.specs.Named.{seed_of, id_of, service_levels}
use Rattle.scitt_draft.specs.Stated.{governor_holder, policy_statement, policy_moment, statement, moment_of}
use Rattle.generator.specs.declared.generating.Summary.{Summary}

-- the log is named `generate`, and has room for 4,096 entries
abbrev pub params : Params
params = record { name = codes "generate"; governor = governor_holder; levels = service_levels; max_entries = 4096; block = 64 }

abbrev pub service : List ℕ
service = codes "service"

unfoldable pub header : Header
header = header_with params (id_of service) (seed_of service)

-- the entries so far, the leaves of their tree, and how many statements were admitted and denied
pub record Tally : Type 0 where
  pub entries : List Entry
  pub leaves : List (List ℕ)
  pub admitted : ℕ
  pub denied : ℕ

-- after one statement more, at a moment, which was judged so
abbrev pub judged : Tally → Said → ℕ → Judgement → Tally
judged t s m (Admit rule) = record {
  entries = t.entries ++ (record { at = moment_after t.entries m; rule = rule; statement = s }) ∷ [];
  leaves = t.leaves ++ entry_bytes (moment_after t.entries m) rule s.logged ∷ [];
  admitted = t.admitted + 1;
  denied = t.denied;
}
judged t s m (Deny rule) = record { entries = t.entries; leaves = t.leaves; admitted = t.admitted; denied = t.denied + 1 }
judged t s m (Known i) = t

-- after these bytes; bytes that are no statement are neither admitted nor denied
abbrev pub with_said : Tally → ℕ → Option Said → Tally
with_said t m None = t
with_said t m (Some s) = judged t s m (judge header t.entries s m)

unfoldable pub with_bytes : Tally → List ℕ → ℕ → Tally
with_bytes t bytes m = with_said t m (logged_statement bytes)

abbrev pub nothing : Tally
nothing = record { entries = []; leaves = []; admitted = 0; denied = 0 }

-- after the policy, which isn't counted
abbrev pub uncounted : Tally → Tally
uncounted t = record { entries = t.entries; leaves = t.leaves; admitted = 0; denied = 0 }

-- after the governor's policy and so many statements
unfoldable pub tally : ℕ → Tally
tally zero = uncounted (with_bytes nothing policy_statement policy_moment)
tally (suc j) = with_bytes (tally j) (statement j) (moment_of j)

-- what is told of the log of so many statements
pub record IsSummary (n : ℕ) (summary : Summary) : Type 0 where
  pub admitted : summary.admitted ≡ (tally n).admitted
  pub denied : summary.denied ≡ (tally n).denied
  pub entries : summary.entries ≡ length (tally n).entries
  pub root : summary.root ≡ mth (tally n).leaves

-- how many bytes the logged form of a stated statement has at most
abbrev pub longest : ℕ
longest = 50000

-- a log that holds what is tallied: its next index is the number of its entries, and nothing of it is pending
pub record Holds (t : Tally) (S : Standing) : Type 0 where
  pub sound : IsSound S
  pub headed : header_of S.log ≡ Some header
  pub entries : entries_of S.log ≡ t.entries
  pub leaves : leaves_of S.log ≡ t.leaves
  pub next : S.next ≡ length t.entries
  pub pending : S.pending ≡ None
  pub bytes : logged_bytes t.entries ≤ longest * length t.entries

-- it holds a tally of so few entries that one more has room
abbrev pub HasRoom : Standing → Type 0
HasRoom S = (t : Tally) × Holds t S × (length t.entries ≤ 2001)

-- what a verdict says of the tallies before and after it
abbrev pub Verdicts : Tally → Option Bool → Tally → Type 0
Verdicts old None new = (new.admitted ≡ old.admitted) × (new.denied ≡ old.denied)
Verdicts old (Some true) new = (new.admitted ≡ old.admitted + 1) × (new.denied ≡ old.denied)
Verdicts old (Some false) new = (new.admitted ≡ old.admitted) × (new.denied ≡ old.denied + 1)

-- a log that holds the tally with these bytes, and what the verdict says of that
pub record Goes (t : Tally) (bytes : List ℕ) (m : ℕ) (verdict : Option Bool) (new : Standing) : Type 0 where
  pub holds : Holds (with_bytes t bytes m) new
  pub counts : Verdicts t verdict (with_bytes t bytes m)

-- from a log that holds a tally with room for one entry more, to the one that holds the tally with these bytes
abbrev pub Registers : Standing → List ℕ → ℕ → Option Bool → Standing → Type 0
Registers old bytes m verdict new = (t : Tally) → Holds t old → length t.entries ≤ 2001 → Goes t bytes m verdict new

-- whatever a crash now leaves on the disk is a log that holds this tally
abbrev pub IsOn : Tally → MemDisk → Type 0
IsOn t disk = (S : Standing) × Holds t S × ((image : List ℕ) → ImageNow (held_of disk) image → Between S image)
