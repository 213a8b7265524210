use Rattle.std.proofs.Common.{length, map, drop}
use Rattle.httparse.specs.Spans.{header_bytes, IsWithin}
use Rattle.http_wire.specs.Heads.{values_of}
use Rattle.http_wire.specs.Fields.{IsSoFar, IsOnce}
use Rattle.http_wire.proofs.fields.only_named.Given as goal

abbrev pub invariant-loop-header : goal.invariant-loop-header
invariant-loop-header l = record {
  so_far : IsSoFar l.buf (values_of l.name (map (header_bytes l.buf) l.headers)) (values_of l.name (map (header_bytes l.buf) (drop l.header-index l.headers))) l.found;
  within : IsOnce (IsWithin (length l.buf)) l.found;
}
