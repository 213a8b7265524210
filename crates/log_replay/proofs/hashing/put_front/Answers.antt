use Rattle.std.proofs.Common.{arith}
use Rattle.cbor_core.specs.Encoding.{size_of}
use Rattle.receipts.proofs.SignedLemmas.{size_small}
use Rattle.log_replay.proofs.EntryText.{writes-then, head-length}
use Rattle.log_replay.proofs.hashing.put_front.Goals as goal

pub put_head-end-requires-clause-room : goal.put_head-end-requires-clause-room
put_head-end-requires-clause-room c = omega (arith, c.put-end.ensures.place, size_small (size_of c.args.at))

pub put_head-end-requires-2-clause-room : goal.put_head-end-requires-2-clause-room
put_head-end-requires-2-clause-room c =
    omega (arith, c.put-end.ensures.place, c.put_head-end.ensures.place, head-length 0 (size_of c.args.at) c.args.at, size_small (size_of c.args.at), size_small (size_of c.args.rule))

pub put_head-requires-clause-room : goal.put_head-requires-clause-room
put_head-requires-clause-room c =
    omega (
      arith,
      c.put-end.ensures.place,
      c.put_head-end.ensures.place,
      c.put_head-end-2.ensures.place,
      head-length 0 (size_of c.args.at) c.args.at,
      head-length 0 (size_of c.args.rule) c.args.rule,
      size_small (size_of c.args.at),
      size_small (size_of c.args.rule),
      size_small (size_of c.args.len),
    )

pub returns-clause-front : goal.returns-clause-front
returns-clause-front c = writes-then c.put-end.ensures (writes-then c.put_head-end.ensures (writes-then c.put_head-end-2.ensures c.put_head.ensures))

pub returns-clause-most : goal.returns-clause-most
returns-clause-most c =
    omega (
      arith,
      c.put-end.ensures.place,
      c.put_head-end.ensures.place,
      c.put_head-end-2.ensures.place,
      c.put_head.ensures.place,
      head-length 0 (size_of c.args.at) c.args.at,
      head-length 0 (size_of c.args.rule) c.args.rule,
      head-length 2 (size_of c.args.len) c.args.len,
    )
