use Rattle.std.proofs.Common.{◌≤◌, ◌-◌, length, drop, arith, length-drop, length-take}
use Rattle.scitt_io.proofs.Shelves.{given_front}
use Rattle.scitt_io.proofs.shelf.give.Goals as goal

pub returns-clause-given : goal.returns-clause-given
returns-clause-given c =
    let bytes = c.args.bytes.now in
    let fits : c.min-count.result ≤ length bytes - c.args.at = omega (arith, length-take (length bytes - c.args.at) (drop c.args.at bytes), length-drop c.args.at bytes) in
    given_front bytes c.copy_from_slice.new.self c.args.buf.now c.args.at c.min-count.result c.requires fits c.copy_from_slice.ensures.after
