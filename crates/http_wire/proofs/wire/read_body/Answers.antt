use Rattle.std.proofs.Common.{arith}
use Rattle.http_wire.proofs.Stopping.{body_taken}
use Rattle.http_wire.proofs.wire.read_body.Goals as goal

pub returns-clause-body : goal.returns-clause-body
returns-clause-body g c =
    let got = c.in_ok-fill.ensures.gathers in
    record {
      bytes = got.bytes;
      taken = got.taken;
      whole = body_taken c.args.held.now.items c.in_ok-body.body.items got.bytes c.drop_front.new.bytes.items c.fill.new.bytes.items c.args.start c.args.size c.min-have.result c.requires (omega arith) (rw (← c.deref.ensures.value) c.in_ok-body.ensures.items) c.drop_front.ensures got.held c.in_ok-fill.ensures.whole;
      size_is = c.in_ok-fill.ensures.whole;
    }
