use Rattle.std.proofs.Common.{◌≡◌, ◌+◌, ◌++◌, length, take, inr, ap, arith, length-append}
use Rattle.std.proofs.lemmas.List.{take_at}
use Rattle.scitt_journal.specs.Layout.{size_in}
use Rattle.auditor.proofs.stepping.parted.Goals as goal

pub returns-then-len-from : goal.returns-then-len-from
returns-then-len-from c = λ left end.
    let four = c.args.four.now in
    let bytes = c.args.bytes.items in
    let size : size_in (take 4 (four ++ bytes)) ≡ size_in four = ap size_in (take_at four bytes 4 c.requires.four) in
    let long : length (four ++ bytes) ≡ 4 + length bytes = omega (arith, length-append four bytes, c.requires.four) in (
      inr (omega (arith, long, size, c.requires.size, c.if-len-from.true, c.len.ensures, c.from.ensures)),
      omega (arith, long, c.len-then-len-from.ensures, c.args.bytes.ok.0),
      end (omega (arith, c.if-len-from.true, c.len.ensures, c.from.ensures)),
    )
