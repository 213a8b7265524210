use Rattle.std.proofs.Common.{◌≡◌, ◌-◌, ◌≤◌, take, is_some, vec_len}
use Rattle.std.specs.Io.KnownBytes.{Consumes}
use Rattle.scitt_tool.proofs.random.read_front.Given as goal

abbrev pub invariant-loop-done : goal.invariant-loop-done
invariant-loop-done g l = record {
  within : l.done ≤ l.len;
  whole : vec_len l.bytes ≡ l.len;
  taken : Consumes (g.S.Source.left l.fn.source) (g.S.Source.left l.source) (take l.done l.bytes.items);
  telling : is_some (g.S.Source.left l.source) ≡ is_some (g.S.Source.left l.fn.source);
  calm : g.S.Source.faults l.source ≡ g.S.Source.faults l.fn.source;
}

abbrev pub decreases-loop-done : goal.decreases-loop-done
decreases-loop-done g l = l.len - l.done
