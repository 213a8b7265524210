use Rattle.std.proofs.Common.{length, arith}
use Rattle.cose_sign1.proofs.StringLemmas.{length_head, Writes-then}
use Rattle.cose_sign1.proofs.strings.put_string.Goals as goal

pub put-requires : goal.put-requires
put-requires c =
    omega (arith, length_head (length c.args.bytes.now), c.put_string_head-at.ensures.place, c.requires)

pub returns : goal.returns
returns c = Writes-then c.put_string_head-at.ensures c.put.ensures
