use Rattle.std.proofs.Common.{◌≡◌, ◌+◌, ◌-◌, ◌≤◌, take, is_some, vec_len}
use Rattle.std.specs.Io.KnownBytes.{Consumes}
use Rattle.auditor.proofs.fetching.fetch.Given as goal

abbrev pub invariant-loop-bytes : goal.invariant-loop-bytes
invariant-loop-bytes g l = record {
  within : l.done ≤ vec_len l.bytes;
  short : l.done ≤ l.most;
  items : vec_len l.bytes ≤ l.most + 1;
  taken : Consumes (g.S.Source.left l.fn.source) (g.S.Source.left l.source) (take l.done l.bytes.items);
  telling : is_some (g.S.Source.left l.source) ≡ is_some (g.S.Source.left l.fn.source);
  no_fault : g.S.Source.faults l.source ≡ g.S.Source.faults l.fn.source;
  keeps : g.S.Source.read_keeps l.fn.source l.source;
}

abbrev pub decreases-loop-bytes : goal.decreases-loop-bytes
decreases-loop-bytes g l = l.most + 1 - l.done
