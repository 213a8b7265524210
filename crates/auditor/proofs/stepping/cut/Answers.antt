use Rattle.std.proofs.Common.{◌≤◌, ◌+◌, Some, length, arith}
use Rattle.auditor.proofs.Gates.{cut_here, six_there}
use Rattle.auditor.proofs.stepping.cut.Goals as goal
use Rattle.auditor.proofs.stepping.cut.Goals.{else-place-eq0-via-then-place-eq0+else-tail-lt5, else-place-eq0-via-else-place-eq0}

pub returns-else-place-eq0-clause-says : goal.returns-else-place-eq0-clause-says
returns-else-place-eq0-clause-says c = λ R bytes left before short tail end.
    let six : 6 ≤ c.args.place + 1 + length bytes = elim c.else-place-eq0.branch [
      | else-place-eq0-via-then-place-eq0+else-tail-lt5 w ↦ omega (arith, tail)
      | else-place-eq0-via-else-place-eq0 w ↦ omega (arith, six_there R c.args.place (Some 1) before w.if-place-eq0.false)
    ] in
    (cut_here R bytes c.args.place (Some 1) before short six, end)
