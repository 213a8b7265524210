-- What a request asks for.
use Rattle.std.specs.Prelude.{Bool, true, false, ◌||◌}
use Rattle.http_wire.specs.declared.answer.Allow.TheVariants as allow
use Rattle.http_wire.specs.declared.request.Request.{Request}
use Rattle.http_wire.specs.declared.request.Method.{Method}
use Rattle.http_wire.specs.declared.request.Method.TheVariants as method
use Rattle.registrar.specs.Turns.{Call, receipt_call, statement_call, consistency_call, policy_call, keys_call}
use Rattle.scitt_answers.specs.declared.problem.Problem.TheVariants as problem
use Rattle.scitt_answers.specs.declared.routes.Target.{Target}
use Rattle.scitt_answers.specs.declared.routes.Target.TheVariants as target
use Rattle.scitt_answers.specs.declared.asking.Ask.{Ask}
use Rattle.scitt_answers.specs.declared.asking.Ask.TheVariants as ask
use Rattle.scitt_answers.specs.declared.asking.Reading.{Reading}
use Rattle.scitt_answers.specs.declared.asking.Reading.TheVariants as reading
use Rattle.scitt_answers.specs.Routes.{path_of, target_of}
use Rattle.scitt_answers.specs.declared.replying.Manner.{Manner}

-- HEAD asks for what GET asks for (RFC 9110, 9.3.2)
abbrev pub read_by : Method → Reading → Ask
read_by method.Get r = ask.Read r
read_by method.Head r = ask.Read r
read_by _ r = ask.Refuse (problem.BadMethod allow.Get)

abbrev pub register_by : Method → Bool → Ask
register_by method.Post true = ask.Register
register_by method.Post false = ask.Refuse problem.BadType
register_by _ cose = ask.Refuse (problem.BadMethod allow.Post)

-- by the target, then the method, then the type of the body
abbrev pub ask_at : Target → Method → Bool → Ask
ask_at target.Nowhere m cose = ask.Refuse problem.NoRoute
ask_at target.Entries m cose = register_by m cose
ask_at (target.Entry index) m cose = read_by m (reading.Receipt index)
ask_at (target.Statement index) m cose = read_by m (reading.Statement index)
ask_at (target.Consistency old) m cose = read_by m (reading.Consistency old)
ask_at target.Keys m cose = read_by m reading.Keys
ask_at target.Policy m cose = read_by m reading.Policy

abbrev pub ask_of : Request → Ask
ask_of q = ask_at (target_of (path_of q.target)) q.method q.cose

-- the call on the log that a reading makes
abbrev pub call_of : Reading → Call
call_of (reading.Receipt index) = receipt_call index
call_of (reading.Statement index) = statement_call index
call_of (reading.Consistency old) = consistency_call old
call_of reading.Keys = keys_call
call_of reading.Policy = policy_call

abbrev pub is_head : Method → Bool
is_head method.Head = true
is_head _ = false

-- the manner of the answer to a request, the last one of its connection or not
abbrev pub manner_of : Bool → Request → Manner
manner_of is_last q = record { close = is_last || q.close; head_only = is_head q.method }
