use Rattle.std.proofs.Common.{◌≡◌, ◌-◌, ◌≤◌, length, take, is_some}
use Rattle.std.specs.Io.KnownBytes.{Appends}
use Rattle.scitt_io.proofs.sink.write_all.Given as goal

abbrev pub invariant-loop-done : goal.invariant-loop-done
invariant-loop-done g l = record {
  within : l.done ≤ length l.bytes;
  taken : Appends (g.K.Sink.taken l.fn.sink) (g.K.Sink.taken l.sink) (take l.done l.bytes);
  telling : is_some (g.K.Sink.taken l.sink) ≡ is_some (g.K.Sink.taken l.fn.sink);
  no_fault : g.K.Sink.refused l.sink ≡ g.K.Sink.refused l.fn.sink;
  keeps : g.K.Sink.write_keeps l.fn.sink l.sink;
}

abbrev pub decreases-loop-done : goal.decreases-loop-done
decreases-loop-done g l = length l.bytes - l.done
