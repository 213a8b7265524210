use Rattle.std.proofs.Common.{◌≡◌, map, drop}
use Rattle.std.specs.List.{list_any}
use Rattle.httparse.specs.Spans.{header_bytes}
use Rattle.http_wire.specs.Heads.{values_of}
use Rattle.http_wire.specs.Tokens.{closes}
use Rattle.http_wire.proofs.fields.one_asks_to_close.Given as goal

abbrev pub invariant-loop-header : goal.invariant-loop-header
invariant-loop-header l =
    list_any closes (values_of l.name (map (header_bytes l.buf) l.headers)) ≡ list_any closes (values_of l.name (map (header_bytes l.buf) (drop l.header-index l.headers)))
