-- A script that is replayed: the session of its peer, from the log that it begins.
use Rattle.std.specs.Prelude.{◌≡◌, ℕ, ◌⊎◌, List, [], true, false, Some, slice_get}
use Rattle.log_replay.specs.declared.parts.Header.{Header}
use Rattle.log_replay.specs.WellMade.{is_within_limits}
use Rattle.registrar.specs.Opening.{header_with, begun}
use Rattle.registrar.specs.Turns.{Standing}
use Rattle.scitt_answers.specs.declared.serving.SessionEnd.{SessionEnd}
use Rattle.scitt_answers.specs.declared.serving.SessionEnd.TheVariants as end
use Rattle.scitt_answers.specs.Marks.{Mark}
use Rattle.scitt_answers.specs.Exchanges.{ClockState}
use Rattle.scitt_answers.specs.Sessions.{Served, text_of}
use Rattle.scitt_script.specs.declared.script.Script.{Script}
use Rattle.scitt_script.specs.declared.script.ScriptStop.{ScriptStop}
use Rattle.scitt_script.specs.declared.script.ScriptStop.TheVariants.{BadScript, OutOfMemory}

-- the header of the log that a script begins: of its parameters, and of the key that its seed and identifier derive
abbrev pub header_in : Script → Header
header_in s = header_with s.params s.id s.seed

-- a log on a disk that has not failed
abbrev pub unfailed : Standing → Mark
unfailed standing = record { standing = standing; faults = 0 }

-- a clock with these moments to come, which was read so often and refused so often
abbrev pub clock_with : List ℕ → ℕ → ℕ → ClockState
clock_with moments readings misses = record { misses = misses; readings = readings; moments = Some (slice_get moments) }

-- A session on one thread with a log on a disk that tells what it holds, from its first request to its end. The peer sent these
-- bytes, of which some were held and some unread at the end, and heard this text.
abbrev pub ServesAlone : Mark → Mark → List ℕ → List ℕ → List ℕ → List ℕ → ClockState → ClockState → SessionEnd → Type 0
ServesAlone start exit sent held unread text clock clock' how =
    Served true (λ left next. next ≡ left) 1 1001 (λ m. m ≡ start) (λ m. m ≡ exit) (λ found left. left ≡ start) (λ found left. left ≡ exit)
    [] held (Some sent) (Some unread) (Some []) (Some text) clock clock' (Some how)

-- neither the link failed nor memory was wanting
abbrev pub IsWholeEnd : SessionEnd → Type 0
IsWholeEnd end.ReadFault = ⊥
IsWholeEnd end.WriteFault = ⊥
IsWholeEnd end.OutOfMemory = ⊥
IsWholeEnd _ = Unit {0}

-- such a session from this log, with these moments of the clock: the disk never failed, and the clock only where no moment was
-- left at the end; the text is that of all answers
pub record IsSession (start : Standing) (moments sent : List ℕ) (how : SessionEnd) (text : List ℕ) : Type 0 where
  pub exit : Standing
  pub held : List ℕ
  pub unread : List ℕ
  pub to_come : List ℕ
  pub readings : ℕ
  pub misses : ℕ
  pub served : ServesAlone (unfailed start) (unfailed exit) sent held unread text (clock_with moments 0 0) (clock_with to_come readings misses) how
  pub late : (misses ≡ 0) ⊎ (to_come ≡ [])
  pub whole_end : IsWholeEnd how
  pub whole_text : text ≡ text_of served.es

-- what a script's replay is: the header of its log is within the limits, and the peer's session begins with the log that it begins
pub record ReplayOf (script : Script) (how : SessionEnd) (text : List ℕ) : Type 0 where
  pub limits : is_within_limits (header_in script) ≡ true
  pub session : IsSession (begun (header_in script)) script.moments script.session how text

-- why there is none: a limit is broken; memory is wanting only where none is
abbrev pub RefusedBy : Header → ScriptStop → Type 0
RefusedBy header BadScript = is_within_limits header ≡ false
RefusedBy header OutOfMemory = is_within_limits header ≡ true
