use Rattle.std.specs.Io.KnownBytes.{Keeps}
use Rattle.scitt_io.proofs.real.write_retrying.Given as goal

abbrev pub invariant-loop : goal.invariant-loop
invariant-loop g l = Keeps (g.T.Write.contents l.fn.writer) (g.T.Write.contents l.writer)
