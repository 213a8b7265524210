use Rattle.std.proofs.Common.{arith}
use Rattle.cose_sign1.specs.Tbs.{tbs_text}
use Rattle.cose_sign1.proofs.StringLemmas.{length_string, Writes-then, Writes-whole}
use Rattle.cose_sign1.proofs.TbsLemmas.{tbs_length}
use Rattle.cose_sign1.proofs.tbs.write_structure.Goals as goal

pub put-at-requires : goal.put-at-requires
put-at-requires c = omega (arith, c.requires.room, tbs_length c.args.signed.now c.args.payload.now)

pub put_string-at-requires : goal.put_string-at-requires
put_string-at-requires c =
    omega (arith, c.requires.room, tbs_length c.args.signed.now c.args.payload.now, c.put-at.ensures.place)

pub put-at-requires-2 : goal.put-at-requires-2
put-at-requires-2 c =
    omega (arith, c.requires.room, tbs_length c.args.signed.now c.args.payload.now, c.put-at.ensures.place, c.put_string-at.ensures.place, length_string c.args.signed.now)

pub put_string-end-requires : goal.put_string-end-requires
put_string-end-requires c =
    omega (arith, c.requires.room, tbs_length c.args.signed.now c.args.payload.now, c.put-at.ensures.place, c.put_string-at.ensures.place, c.put-at-2.ensures.place, length_string c.args.signed.now)

pub returns : goal.returns
unfolding tbs_text
returns c = Writes-whole (Writes-then c.put-at.ensures (Writes-then c.put_string-at.ensures (Writes-then c.put-at-2.ensures c.put_string-end.ensures))) (omega (arith, c.requires.room))
