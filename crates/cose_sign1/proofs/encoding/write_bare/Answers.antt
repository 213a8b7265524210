use Rattle.std.proofs.Common.{arith}
use Rattle.cose_sign1.specs.Message.{bare_text}
use Rattle.cose_sign1.proofs.StringLemmas.{length_string, Writes-then, Writes-whole}
use Rattle.cose_sign1.proofs.MessageLemmas.{bare_length}
use Rattle.cose_sign1.proofs.encoding.write_bare.Goals as goal

pub put-at-requires-2 : goal.put-at-requires-2
put-at-requires-2 c =
    omega (arith, c.requires.room, c.put-at.ensures.place, c.put_string-at.ensures.place, length_string c.args.protected.now)

pub put_string-at-requires-2 : goal.put_string-at-requires-2
put_string-at-requires-2 c =
    omega (arith, c.requires.room, c.put-at.ensures.place, c.put_string-at.ensures.place, c.put-at-2.ensures.place, length_string c.args.protected.now)

pub put_string-end-requires : goal.put_string-end-requires
put_string-end-requires c =
    omega (arith, c.requires.room, c.put-at.ensures.place, c.put_string-at.ensures.place, c.put-at-2.ensures.place, c.put_string-at-2.ensures.place, length_string c.args.protected.now, length_string c.args.payload.now)

pub returns : goal.returns
unfolding bare_text
returns c =
    Writes-whole (Writes-then c.put-at.ensures (Writes-then c.put_string-at.ensures (Writes-then c.put-at-2.ensures (Writes-then c.put_string-at-2.ensures c.put_string-end.ensures)))) (omega (arith, c.requires.room, bare_length c.args.protected.now c.args.payload.now c.args.signature.now))
