-- What lies behind the piece stays as it was.
use Rattle.std.proofs.Common.{◌+◌, ◌-◌, length, arith, ap}
use Rattle.std.proofs.lemmas.Slice.{drop-put_mid}
use Rattle.lms_ots.proofs.words.put.Goals as goal

pub returns-clause-rest : goal.returns-clause-rest
returns-clause-rest c =
    let n = c.args.at + length c.args.piece.now in
    drop-put_mid c.args.at (n - c.args.at) c.args.buf.now c.copy_from_slice.new.self n (omega arith) (omega arith) (omega (arith, ap length c.copy_from_slice.ensures.after))
