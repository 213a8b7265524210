-- `replay`: what a peer hears of a log that a script begins.
use Rattle.std.specs.Prelude.{◌≡◌, ◌⊎◌, ℕ, List, false, codes}
use Rattle.log_replay.specs.WellMade.{is_within_limits}
use Rattle.scitt_answers.specs.declared.serving.SessionEnd.{SessionEnd}
use Rattle.scitt_answers.specs.declared.serving.SessionEnd.TheVariants.{Ended}
use Rattle.scitt_script.specs.declared.script.Script.{Script}
use Rattle.scitt_script.specs.Scripts.{ScriptOf, IsNoScript}
use Rattle.scitt_script.specs.Replays.{header_in, ReplayOf}
use Rattle.scitt_tool.specs.Answer.{Answer, refused}

-- 0 where the session ended as its peer meant it to, and 1 where it was ended
abbrev pub status_of : SessionEnd → ℕ
status_of Ended = 0
status_of _ = 1

-- what was heard, and nothing beside it
abbrev pub heard : SessionEnd → List ℕ → Answer
heard how text = record { status = status_of how; text = text }

abbrev pub script_refused : Answer
script_refused = refused (codes "refused script")

-- the log's header is within the limits, and this was heard in a session with it
pub record HearsSession (script : Script) (answer : Answer) : Type 0 where
  pub how : SessionEnd
  pub text : List ℕ
  pub replayed : ReplayOf script how text
  pub is : answer ≡ heard how text

-- the answer by a script: it is refused exactly where a limit of the log's header is broken
abbrev pub PlayedOf : Script → Answer → Type 0
PlayedOf script answer = ((is_within_limits (header_in script) ≡ false) × (answer ≡ script_refused)) ⊎ HearsSession script answer

-- the bytes are a script
pub record PlaysScript (bytes : List ℕ) (answer : Answer) : Type 0 where
  pub script : Script
  pub spelled : ScriptOf bytes script
  pub played : PlayedOf script answer

-- they are none
pub record SpellsNoScript (bytes : List ℕ) (answer : Answer) : Type 0 where
  pub none : IsNoScript bytes
  pub is : answer ≡ script_refused

-- the answer by a file's bytes
abbrev pub ReplayTextOf : List ℕ → Answer → Type 0
ReplayTextOf bytes answer = SpellsNoScript bytes answer ⊎ PlaysScript bytes answer

-- both were heard in sessions of the script that the bytes are
pub record BothHeard (bytes : List ℕ) (a b : Answer) : Type 0 where
  pub script : Script
  pub spelled : ScriptOf bytes script
  pub one : HearsSession script a
  pub other : HearsSession script b

abbrev pub OneHeard : List ℕ → Answer → Answer → Type 0
OneHeard bytes a b = (a ≡ b) ⊎ BothHeard bytes a b

-- no bytes have two answers, but two sessions of one script
abbrev pub OnePlay : Type 0
OnePlay = (bytes : List ℕ) (a b : Answer) → ReplayTextOf bytes a → ReplayTextOf bytes b → OneHeard bytes a b
