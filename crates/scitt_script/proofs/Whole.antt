-- A replay from the log that is begun and the session with it.
use Rattle.std.proofs.Common.{◌≡◌, true, Result, Ok, Err, IfOk, IfErr, subst}
use Rattle.log_replay.specs.declared.parts.Header.{Header}
use Rattle.log_replay.specs.WellMade.{is_within_limits}
use Rattle.registrar.specs.Opening.{begun}
use Rattle.registrar.specs.Turns.{Standing}
use Rattle.scitt_script.specs.declared.replaying.Replayed.{Replayed}
use Rattle.scitt_script.specs.declared.script.Script.{Script}
use Rattle.scitt_script.specs.declared.script.ScriptStop.{ScriptStop}
use Rattle.scitt_script.specs.declared.script.ScriptStop.TheVariants.{BadScript, OutOfMemory}
use Rattle.scitt_script.specs.Replays.{IsSession, RefusedBy, ReplayOf, header_in}

pub replayed_by :
    (script : Script) (standing : Standing) (result : Result Replayed ScriptStop)
    → standing ≡ begun (header_in script) → is_within_limits (header_in script) ≡ true
    → IfOk result (λ r. IsSession standing script.moments script.session r.end r.text.items) → IfOk result (λ r. ReplayOf script r.end r.text.items)
replayed_by script standing (Ok r) e limits s = record {
  limits = limits;
  session = subst (λ (k : Standing). IsSession k script.moments script.session r.end r.text.items) e s;
}
replayed_by script standing (Err stop) e limits s = s

bad_is_no_want : ◌≡◌ {A = ScriptStop} BadScript OutOfMemory → ⊥
bad_is_no_want e = cc

pub refused_by : (header : Header) (result : Result Replayed ScriptStop) → is_within_limits header ≡ true → IfErr result (λ stop. stop ≡ OutOfMemory) → IfErr result (RefusedBy header)
refused_by header (Ok r) limits s = s
refused_by header (Err BadScript) limits s = absurd (bad_is_no_want s)
refused_by header (Err OutOfMemory) limits s = limits
