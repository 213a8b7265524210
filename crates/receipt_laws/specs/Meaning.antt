-- What an accepted receipt says of a log that has its root.
use Rattle.std.specs.Prelude.{◌≡◌, ℕ, ◌≤◌, List, length, take, slice_get, Some}
use Rattle.merkle_tree.specs.Mth.{mth}
use Rattle.merkle_tree.specs.Inputs.{Collides, path_inputs, tree_inputs}
use Rattle.statement.specs.declared.statement_type.Statement.{Statement}
use Rattle.statement.specs.Parsed.{StatementOf}
use Rattle.statement.specs.Said.{said_of}
use Rattle.receipts.specs.declared.receipt.Proof.TheVariants.{Inclusion}
use Rattle.log_replay.specs.declared.words.Judgement.TheVariants.{Admit}
use Rattle.log_replay.specs.Records.{Log, leaves_of, entries_of, homes_of}
use Rattle.log_replay.specs.Judging.{judgement_of}
use Rattle.log_replay.specs.WellMade.{WellMade}
use Rattle.relying_party.specs.declared.trust.Trust.{Trust}
use Rattle.relying_party.specs.declared.answers.ReceiptResult.TheVariants.{Accepted}
use Rattle.relying_party.specs.declared.answers.Verdict.{Verdict}
use Rattle.relying_party.specs.Entries.{entry_bytes}
use Rattle.relying_party.specs.Accepts.{Accepts}
use Rattle.relying_party.specs.Meaning.{HasProof}

-- entry i of a log is this statement, with this moment and rule. It stands in the record of this number, and the log before that record, which has
-- the i entries before it, judged the statement at that moment to be admitted by that rule
pub record IsAdmitted (R : Log) (i at rule : ℕ) (s : Statement) : Type 0 where
  pub bytes : slice_get (leaves_of R) i ≡ Some (entry_bytes at rule s.logged)
  pub entry : slice_get (entries_of R) i ≡ Some (record { at = at; rule = rule; statement = said_of s })
  pub number : ℕ
  pub home : slice_get (homes_of R) i ≡ Some number
  pub before : entries_of (take number R) ≡ take i (entries_of R)
  pub judged : judgement_of (take number R) (said_of s) at ≡ Some (Admit rule)

-- of every well made log whose first `size` entries have this root: its entry at the index is the statement, where nothing that is hashed collides
abbrev pub IsOfTheLog : ℕ → List ℕ → ℕ → ℕ → ℕ → List (List ℕ) → Statement → Type 0
IsOfTheLog size root index at rule path s =
    (R : Log) → WellMade R → size ≤ length (entries_of R) → mth (take size (leaves_of R)) ≡ root
    → (Collides (path_inputs index size (entry_bytes at rule s.logged) path) (tree_inputs (take size (leaves_of R))) → ⊥)
    → IsAdmitted R index at rule s

-- that is what an accepted receipt says, with the path that it has
abbrev pub AcceptedIsOfTheLog : Type 0
AcceptedIsOfTheLog =
    (trust : Trust) (bytes : List ℕ) (v : Verdict) (s : Statement) (k : ℕ) (receipt root : List ℕ) (size index at rule : ℕ) → Accepts trust bytes v → StatementOf bytes s
    → slice_get s.receipts k ≡ Some receipt → slice_get v.receipts k ≡ Some (Accepted size root index at rule)
    → (path : List (List ℕ)) × HasProof receipt (Inclusion size index path at rule) × IsOfTheLog size root index at rule path s
