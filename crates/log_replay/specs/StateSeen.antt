-- A state of the code, as what is kept of a log.
use Rattle.std.specs.Prelude.{◌≡◌, Some}
use Rattle.log_replay.specs.declared.state.State.{State}
use Rattle.log_replay.specs.declared.checked.Checked.{Checked}
use Rattle.log_replay.specs.Records.{Log}
use Rattle.log_replay.specs.Kept.{Kept, kept_from, StateOf}

abbrev pub kept_of : State → Kept
kept_of s = kept_from s.header s.policy s.records s.reserved s.used s.tables.ids s.tables.homes s.tables.facts s.tables.leaves s.last s.logged

-- the state stands for this log
abbrev pub StandsFor : State → Log → Type 0
StandsFor s R = StateOf (kept_of s) R

-- the state has room for an entry of this statement
pub record HasRoom (s : State) (c : Checked) : Type 0 where
  pub facts : s.tables.room ≡ Some c.facts
  pub policy : s.room ≡ c.document
