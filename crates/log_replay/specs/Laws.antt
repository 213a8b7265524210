-- Laws of logs, and of states that stand for them.
use Rattle.std.specs.Prelude.{◌≡◌, ℕ, List, [], ◌∷◌, ◌++◌, Some, None, take}
use Rattle.statement.specs.Said.{Said}
use Rattle.policy_rules.specs.declared.documents.Policy.{Policy}
use Rattle.log_replay.specs.declared.parts.Header.{Header}
use Rattle.log_replay.specs.Records.{Log, record_of, header_of, entries_of}
use Rattle.log_replay.specs.Judging.{judge}
use Rattle.log_replay.specs.WellMade.{WellMade, failing_of}
use Rattle.log_replay.specs.Kept.{Kept, StateOf, nothing_kept}
use Rattle.log_replay.specs.KeptRows.{judge_kept, failing_kept, with_record}

-- the judgement by what a state keeps is that of the log
abbrev pub KeptIsJudge : Type 0
KeptIsJudge = (K : Kept) (R : Log) (h : Header) (p : Policy) (s : Said) (m : ℕ) → StateOf K R → header_of R ≡ Some h → K.policy ≡ Some p
    → judge_kept p K.ids K.facts K.last s m ≡ judge h (entries_of R) s m

-- no records
abbrev pub NothingStands : Type 0
NothingStands = StateOf nothing_kept []

-- the first rule that a record fails by what is kept is that of the log
abbrev pub FailingIsFailing : Type 0
FailingIsFailing = (K : Kept) (R : Log) (body : List ℕ) → StateOf K R → failing_kept K (record_of body) ≡ failing_of R body

-- a record that fails none leads to what is kept of the log with it
abbrev pub RecordIsAdded : Type 0
RecordIsAdded = (K : Kept) (R : Log) (body : List ℕ) → StateOf K R → failing_of R body ≡ None → StateOf (with_record K (record_of body)) (R ++ body ∷ [])

-- a log with one record more is well made where no rule fails on it, and only there
abbrev pub OneMore : Type 0
OneMore = (R : Log) (body : List ℕ) → WellMade R → failing_of R body ≡ None → WellMade (R ++ body ∷ [])

abbrev pub OneLess : Type 0
OneLess = (R : Log) (body : List ℕ) → WellMade (R ++ body ∷ []) → failing_of R body ≡ None

-- of a well made log each front is well made
abbrev pub FrontsAreWellMade : Type 0
FrontsAreWellMade = (R : Log) (n : ℕ) → WellMade R → WellMade (take n R)
