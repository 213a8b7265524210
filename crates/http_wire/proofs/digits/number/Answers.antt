use Rattle.std.proofs.Common.{arith}
use Rattle.http_wire.proofs.Numbers.{few_digits, one_digit_more, digit_range, length_parts}
use Rattle.http_wire.proofs.digits.number.Goals as goal

pub overflow_mul-n : goal.overflow_mul-n
overflow_mul-n c =
    let p = length_parts c.args.text.now c.requires in
    let few = few_digits c.args.text.now c.loop-b.b-index p.0 p.1 in
    omega (arith, few, c.loop-b.invariant)

pub overflow_add-n : goal.overflow_add-n
overflow_add-n c =
    let p = length_parts c.args.text.now c.requires in
    let few = few_digits c.args.text.now c.loop-b.b-index p.0 p.1 in
    let digit = digit_range c.args.text.now c.loop-b.b-index p.0 c.loop-b-test.true in
    omega (arith, few, digit.0, digit.1, c.loop-b.invariant, c.from.ensures)

pub loop-b-preserved : goal.loop-b-preserved
loop-b-preserved c =
    let p = length_parts c.args.text.now c.requires in
    let more = one_digit_more c.args.text.now c.loop-b.b-index p.0 c.loop-b-test.true in
    let digit = digit_range c.args.text.now c.loop-b.b-index p.0 c.loop-b-test.true in
    omega (arith, more, digit.0, digit.1, c.loop-b.invariant, c.from.ensures)
