use Rattle.std.proofs.Common.{◌∙◌, sym}
use Rattle.scitt_io.proofs.Shelves.{named_here}
use Rattle.scitt_io.proofs.shelf.place_of.Goals as goal

pub returns-then-eq : goal.returns-then-eq
returns-then-eq c =
    sym c.loop-place.invariant
    ∙ named_here _ _ _ _ c.loop-place-test.true c.index-files-place.is (rw c.as_str.ensures.value at (sym c.if-eq.ensures))
