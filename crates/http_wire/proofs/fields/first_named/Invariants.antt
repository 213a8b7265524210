use Rattle.std.proofs.Common.{◌≡◌, map, drop}
use Rattle.httparse.specs.Spans.{header_bytes}
use Rattle.http_wire.specs.Heads.{values_of}
use Rattle.http_wire.proofs.fields.first_named.Given as goal

abbrev pub invariant-loop-header : goal.invariant-loop-header
invariant-loop-header l =
    values_of l.name (map (header_bytes l.buf) l.headers) ≡ values_of l.name (map (header_bytes l.buf) (drop l.header-index l.headers))
