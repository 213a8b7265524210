use Rattle.std.proofs.Common.{refl}
use Rattle.std.specs.Result.{result_ok}
use Rattle.registrar.specs.Turns.{keys_call, made}
use Rattle.scitt_answers.proofs.Holding.{call_turned, standing_grows}
use Rattle.scitt_answers.proofs.local.LocalTurns.keys.Goals as goal

pub returns-clause-turned : goal.returns-clause-turned
returns-clause-turned g c =
    let r = c.args.self.now.registrar.now in
    call_turned g.D.Disk.fault_count r r keys_call (made (result_ok c.keys-bytes.result)) c.keys-bytes.ensures (standing_grows r.standing r.standing refl) refl c.size-size.ensures
