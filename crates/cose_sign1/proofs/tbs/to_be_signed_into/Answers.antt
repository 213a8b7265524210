use Rattle.std.proofs.Common.{arith}
use Rattle.cose_sign1.specs.Tbs.{signed_of}
use Rattle.cose_sign1.proofs.TbsLemmas.{tbs_is, tbs_length, signed_fits}
use Rattle.cose_sign1.proofs.tbs.to_be_signed_into.Goals as goal

pub write_structure-requires-clause-signed_fits : goal.write_structure-requires-clause-signed_fits
write_structure-requires-clause-signed_fits c = rw c.signed_of.ensures (signed_fits c.args.protected.now c.requires.protected_fits)

pub write_structure-requires-clause-room : goal.write_structure-requires-clause-room
write_structure-requires-clause-room c = rw c.signed_of.ensures (omega (arith, c.requires.room, tbs_length (signed_of c.args.protected.now) c.args.payload.now))

pub returns : goal.returns
returns c = rw (c.write_structure.ensures, c.signed_of.ensures) (tbs_is c.args.protected.now c.args.payload.now c.requires.protected_fits c.requires.payload_fits)
