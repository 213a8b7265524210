use Rattle.std.proofs.Common.{◌≡◌, ◌-◌, ◌≤◌, length, None, is_some}
use Rattle.std.specs.Io.KnownBytes.{Consumes}
use Rattle.auditor.specs.Streams.{seen}
use Rattle.auditor.specs.Walks.{Knows}
use Rattle.auditor.proofs.following.follow.Given as goal

abbrev pub invariant-records : goal.invariant-records
invariant-records g l = record {
  limit : l.reader.limit ≡ l.limit;
  held : length l.reader.held ≤ 1;
  on : l.reader.last ≡ None;
  taken : Consumes (g.S.Source.left l.fn.source) (g.S.Source.left l.source) (seen l.reader);
  within : length (seen l.reader) ≤ l.limit;
  knows : Knows l.walk l.reader.records;
  telling : is_some (g.S.Source.left l.source) ≡ is_some (g.S.Source.left l.fn.source);
  no_fault : g.S.Source.faults l.source ≡ g.S.Source.faults l.fn.source;
  keeps : g.S.Source.read_keeps l.fn.source l.source;
}

abbrev pub decreases-records : goal.decreases-records
decreases-records g l = l.limit - length (seen l.reader)
